-- Where a text is cut into lines, and a line into words.
use Rattle.std.proofs.Common.{◌≡◌, ℕ, ◌+◌, ◌-◌, ◌<◌, ◌≤◌, Bool, true, false, eqb, List, [], ◌∷◌, ◌++◌, append_assoc, length, length-append, get_or, take, drop, drop-cons, suc, Some, None, refl, sym, ap, ◌∙◌, arith, not, one-add, add-one, add-zero, subst}
use Rattle.std.specs.List.{position, position_or_len}
use Rattle.std.proofs.lemmas.Bool.{not-true, eqb-true}
use Rattle.std.proofs.lemmas.List.{take_all, drop_all, take_rest, take-append-drop, length-drop, get_or-drop, get_or_at}
use Rattle.std.proofs.lemmas.List.Sums.{passes_at_first, prefix_len_passes}
use Rattle.line_words.specs.Lines.{lines_of, with_front_byte}
use Rattle.line_words.specs.Words.{words_of, is_blank, ends_word}
use Rattle.line_words.proofs.lemmas.Positions.{position_some, position_none}
use Rattle.std.proofs.lemmas.Bool.{ne_eqb}

-- a byte above the space is no blank
pub above_space : (b : ℕ) → 32 < b → is_blank b ≡ false
above_space b lt = rw (ne_eqb b 32 (λ e. omega (arith, lt, e)), ne_eqb b 9 (λ e. omega (arith, lt, e)), ne_eqb b 13 (λ e. omega (arith, lt, e))) refl

-- ---- lines

abbrev is_feed : ℕ → Bool
is_feed b = eqb b 10

abbrev IsLineBefore : List ℕ → Type 0
IsLineBefore bytes = position_or_len is_feed bytes < length bytes → lines_of bytes ≡ take (position_or_len is_feed bytes) bytes ∷ lines_of (drop (position_or_len is_feed bytes + 1) bytes)

one_byte_before : (b : ℕ) (bytes : List ℕ) (t : Bool) → eqb b 10 ≡ t → IsLineBefore bytes → IsLineBefore (b ∷ bytes)
one_byte_before b bytes true e others lt = rw e refl
one_byte_before b bytes false e others lt =
    let far = rw e at lt in
    let within : position_or_len is_feed bytes < length bytes = omega (arith, far) in
    rw (e, others within, one-add, add-one, add-one) refl

line_before : (bytes : List ℕ) → IsLineBefore bytes
line_before [] = λ lt. absurd (omega arith)
line_before (b ∷ bytes) = one_byte_before b bytes (eqb b 10) refl (line_before bytes)

abbrev IsLineAtEnd : List ℕ → Type 0
IsLineAtEnd bytes = 0 < length bytes → length bytes ≤ position_or_len is_feed bytes → lines_of bytes ≡ bytes ∷ []

last_byte : (b : ℕ) (t : Bool) → eqb b 10 ≡ t → IsLineAtEnd (b ∷ [])
last_byte b true e some le = let far = rw e at le in absurd (omega (arith, far))
last_byte b false e some le = rw e refl

one_byte_at_end : (b c : ℕ) (bytes : List ℕ) (t : Bool) → eqb b 10 ≡ t → IsLineAtEnd (c ∷ bytes) → IsLineAtEnd (b ∷ c ∷ bytes)
one_byte_at_end b c bytes true e others some le = let far = rw e at le in absurd (omega (arith, far))
one_byte_at_end b c bytes false e others some le =
    let far = rw e at le in
    let rest : lines_of (c ∷ bytes) ≡ (c ∷ bytes) ∷ [] = others (omega arith) (omega (arith, far)) in
    rw e (ap (with_front_byte b) rest)

line_at_end : (bytes : List ℕ) → IsLineAtEnd bytes
line_at_end [] = λ some le. absurd (omega arith)
line_at_end (b ∷ []) = last_byte b (eqb b 10) refl
line_at_end (b ∷ c ∷ bytes) = one_byte_at_end b c bytes (eqb b 10) refl (line_at_end (c ∷ bytes))

-- the line before the first line feed, and the bytes after that
pub first_line : (bytes : List ℕ) (n : ℕ) → Some n ≡ position is_feed bytes → lines_of bytes ≡ take n bytes ∷ lines_of (take (length bytes - (n + 1)) (drop (n + 1) bytes))
first_line bytes n e =
    let at = position_some is_feed bytes n e in
    rw (take_rest bytes (n + 1), ← at.0) (line_before bytes at.1)

-- the bytes of that line, its line feed and those after
pub first_cut : (bytes : List ℕ) (n : ℕ) → Some n ≡ position is_feed bytes → bytes ≡ (take n bytes ++ 10 ∷ []) ++ take (length bytes - (n + 1)) (drop (n + 1) bytes)
first_cut bytes n e =
    let at = position_some is_feed bytes n e in
    let feed : is_feed (get_or bytes n 0) ≡ true = rw at.0 at (passes_at_first is_feed bytes 0 at.1) in
    let lt : n < length bytes = omega (arith, at.0, at.1) in
    let here : drop n bytes ≡ 10 ∷ drop (n + 1) bytes = drop-cons bytes n 0 lt ∙ ap (λ b. b ∷ drop (suc n) bytes) (eqb-true (get_or bytes n 0) 10 feed) ∙ ap (λ k. 10 ∷ drop k bytes) (sym (add-one n)) in
    rw (take_rest bytes (n + 1), append_assoc (take n bytes) (10 ∷ []) (drop (n + 1) bytes), ← here) (sym (take-append-drop n bytes))

-- a line feed has a position
pub feed_has_position : (line after : List ℕ) → None ≡ position is_feed (line ++ 10 ∷ after) → ⊥
feed_has_position line after e =
    let le : length (line ++ 10 ∷ after) ≤ position_or_len is_feed (line ++ 10 ∷ after) = position_none is_feed (line ++ 10 ∷ after) e in
    let passes : not (is_feed (get_or (line ++ 10 ∷ after) (length line) 0)) ≡ true =
    prefix_len_passes (λ b. not (is_feed b)) (line ++ 10 ∷ after) (length line) 0 (omega (arith, le, length-append line (10 ∷ after))) in
    let feed : get_or (line ++ 10 ∷ after) (length line) 0 ≡ 10 = get_or_at line 10 after 0 (length line) refl in
    let never : not (is_feed 10) ≡ true = subst (λ (b : ℕ). not (is_feed b) ≡ true) feed passes in
    cc

-- the last line, where no line feed follows
pub last_line : (bytes : List ℕ) → 0 < length bytes → None ≡ position is_feed bytes → lines_of bytes ≡ take (length bytes) bytes ∷ lines_of (drop (length bytes) bytes)
last_line bytes some e = rw (take_all (length bytes) bytes (omega arith), drop_all (length bytes) bytes (omega arith)) (line_at_end bytes some (position_none is_feed bytes e))

-- ---- words

abbrev is_inside : ℕ → Bool
is_inside b = not (is_blank b)

after_blank : (b : ℕ) (bytes : List ℕ) → is_blank b ≡ true → words_of (b ∷ bytes) ≡ words_of bytes
after_blank b bytes e = rw e refl

one_byte_word : (b : ℕ) (bytes : List ℕ) → is_blank b ≡ false → ends_word bytes ≡ true → words_of (b ∷ bytes) ≡ (b ∷ []) ∷ words_of bytes
one_byte_word b bytes e f = rw (e, f) refl

-- a byte in front of a word
pub longer_word : (b : ℕ) (bytes : List ℕ) → is_blank b ≡ false → ends_word bytes ≡ false → words_of (b ∷ bytes) ≡ with_front_byte b (words_of bytes)
longer_word b bytes e f = rw (e, f) refl

abbrev IsAfterBlanks : List ℕ → Type 0
IsAfterBlanks bytes = words_of bytes ≡ words_of (drop (position_or_len is_inside bytes) bytes)

one_blank_more : (b : ℕ) (bytes : List ℕ) (t : Bool) → is_blank b ≡ t → IsAfterBlanks bytes → IsAfterBlanks (b ∷ bytes)
one_blank_more b bytes true e others =
    let n : position_or_len is_inside (b ∷ bytes) ≡ 1 + position_or_len is_inside bytes = rw e refl in
    rw (n, one-add) (after_blank b bytes e ∙ others)
one_blank_more b bytes false e others =
    let n : position_or_len is_inside (b ∷ bytes) ≡ 0 = rw e refl in
    ap (λ k. words_of (drop k (b ∷ bytes))) (sym n)

-- the blanks at the front make no word
after_blanks : (bytes : List ℕ) → IsAfterBlanks bytes
after_blanks [] = refl
after_blanks (b ∷ bytes) = one_blank_more b bytes (is_blank b) refl (after_blanks bytes)

abbrev StartsWithWord : List ℕ → Type 0
StartsWithWord bytes = words_of bytes ≡ take (position_or_len is_blank bytes) bytes ∷ words_of (drop (position_or_len is_blank bytes) bytes)

one_byte_more : (b c : ℕ) (bytes : List ℕ) (t : Bool) → is_blank b ≡ false → is_blank c ≡ t → (is_blank c ≡ false → StartsWithWord (c ∷ bytes)) → StartsWithWord (b ∷ c ∷ bytes)
one_byte_more b c bytes true e f others =
    let n : position_or_len is_blank (b ∷ c ∷ bytes) ≡ 1 = rw (e, f) refl in
    rw n (one_byte_word b (c ∷ bytes) e f)
one_byte_more b c bytes false e f others =
    let n : position_or_len is_blank (b ∷ c ∷ bytes) ≡ 1 + position_or_len is_blank (c ∷ bytes) = rw e refl in
    rw (n, one-add) (longer_word b (c ∷ bytes) e f ∙ ap (with_front_byte b) (others f))

word_at_front : (b : ℕ) (bytes : List ℕ) → is_blank b ≡ false → StartsWithWord (b ∷ bytes)
word_at_front b [] e =
    let n : position_or_len is_blank (b ∷ []) ≡ 1 = rw e refl in
    rw n (one_byte_word b [] e refl)
word_at_front b (c ∷ bytes) e = one_byte_more b c bytes (is_blank c) e refl (word_at_front c bytes)

some_byte : (bytes : List ℕ) → 0 < length bytes → is_blank (get_or bytes 0 0) ≡ false → StartsWithWord bytes × (0 < position_or_len is_blank bytes)
some_byte [] some e = absurd (omega arith)
some_byte (b ∷ bytes) some e =
    let n : position_or_len is_blank (b ∷ bytes) ≡ 1 + position_or_len is_blank bytes = rw e refl in
    (word_at_front b bytes e, omega (arith, n))

-- The first word, from its first byte on.
pub record IsFirstWord (bytes after : List ℕ) : Type 0 where
  pub words : words_of bytes ≡ take (position_or_len is_blank after) after ∷ words_of (drop (position_or_len is_blank after) after)
  pub some_byte : 0 < position_or_len is_blank after

pub first_word : (bytes : List ℕ) (n : ℕ) → Some n ≡ position is_inside bytes → IsFirstWord bytes (take (length bytes - n) (drop n bytes))
first_word bytes n e =
    let at = position_some is_inside bytes n e in
    let inside : is_inside (get_or bytes n 0) ≡ true = rw at.0 at (passes_at_first is_inside bytes 0 at.1) in
    let here : is_blank (get_or (drop n bytes) 0 0) ≡ false = rw (get_or-drop n bytes 0 0, add-zero) (not-true _ inside) in
    let word = some_byte (drop n bytes) (omega (arith, length-drop n bytes, at)) here in
    subst (λ after. IsFirstWord bytes after) (sym (take_rest bytes n))
    (record { words = after_blanks bytes ∙ ap (λ k. words_of (drop k bytes)) at.0 ∙ word.0; some_byte = word.1 })

pub no_word : (bytes : List ℕ) → None ≡ position is_inside bytes → words_of bytes ≡ []
no_word bytes e = after_blanks bytes ∙ ap words_of (drop_all _ bytes (position_none is_inside bytes e))
