-- The lines of a text that is put together of them, and the words of such a line.
use Rattle.std.proofs.Common.{◌≡◌, ℕ, ◌<◌, ◌≤◌, Bool, true, false, ltb, leb, List, [], ◌∷◌, ◌++◌, length, refl, ap, ◌∙◌, arith}
use Rattle.std.specs.Prelude.{codes}
use Rattle.std.specs.List.{list_all, join_with_byte, AllByRecursion}
use Rattle.std.proofs.lemmas.Bool.{ltb-true, leb-true, le-leb, ne_eqb, and_parts, and_from}
use Rattle.std.proofs.lemmas.List.Folds.{list_all-append}
use Rattle.line_words.specs.Lines.{lines_of, with_front_byte}
use Rattle.line_words.specs.Words.{words_of, is_blank}
use Rattle.line_words.proofs.lemmas.WhereCut.{above_space, longer_word}

-- no byte is a space or less
abbrev pub is_dark : List ℕ → Bool
is_dark w = list_all (λ b. ltb 32 b) w

-- no byte is less than a space
abbrev pub is_printable : List ℕ → Bool
is_printable w = list_all (λ b. leb 32 b) w

-- A word of a canonical line.
pub record IsDarkWord (w : List ℕ) : Type 0 where
  pub dark : is_dark w ≡ true
  pub some : 0 < length w

pub dark_byte : (b : ℕ) → ltb 32 b ≡ true → is_blank b ≡ false
dark_byte b dark = above_space b (ltb-true 32 b dark)

pub dark_printable : (w : List ℕ) → is_dark w ≡ true → is_printable w ≡ true
dark_printable [] dark = refl
dark_printable (b ∷ w) dark =
    let parts = and_parts (ltb 32 b) (is_dark w) dark in
    let lt : 32 < b = ltb-true 32 b parts.0 in
    and_from (leb 32 b) (is_printable w) (le-leb 32 b (omega (arith, lt))) (dark_printable w parts.1)

pub printable_both : (v w : List ℕ) → is_printable v ≡ true → is_printable w ≡ true → is_printable (v ++ w) ≡ true
printable_both v w left right = list_all-append (λ b. leb 32 b) v w ∙ and_from (is_printable v) (is_printable w) left right

-- ---- lines

pub lines_front : (body rest : List ℕ) → is_printable body ≡ true → lines_of ((body ++ codes "\n") ++ rest) ≡ body ∷ lines_of rest
lines_front [] rest printable = refl
lines_front (b ∷ body) rest printable =
    let parts = and_parts (leb 32 b) (is_printable body) printable in
    let le : 32 ≤ b = leb-true 32 b parts.0 in
    rw (ne_eqb b 10 (λ e. omega (arith, le, e)), lines_front body rest parts.1) refl

-- ---- words

tail_word : (b c : ℕ) (w : List ℕ) → is_dark (b ∷ c ∷ w) ≡ true → (is_blank b ≡ false) × (is_blank c ≡ false) × IsDarkWord (c ∷ w)
tail_word b c w dark =
    let parts = and_parts (ltb 32 b) (is_dark (c ∷ w)) dark in
    (dark_byte b parts.0, dark_byte c (and_parts (ltb 32 c) (is_dark w) parts.1).0, record { dark = parts.1; some = omega arith })

pub words_front : (w rest : List ℕ) → IsDarkWord w → words_of (w ++ 32 ∷ rest) ≡ w ∷ words_of rest
words_front [] rest h = absurd (omega (arith, h.some))
words_front (b ∷ []) rest h = rw (dark_byte b (and_parts (ltb 32 b) true h.dark).0) refl
words_front (b ∷ c ∷ w) rest h =
    let t = tail_word b c w h.dark in
    longer_word b ((c ∷ w) ++ 32 ∷ rest) t.0 t.1 ∙ ap (with_front_byte b) (words_front (c ∷ w) rest t.2)

pub words_last : (w : List ℕ) → IsDarkWord w → words_of w ≡ w ∷ []
words_last [] h = absurd (omega (arith, h.some))
words_last (b ∷ []) h = rw (dark_byte b (and_parts (ltb 32 b) true h.dark).0) refl
words_last (b ∷ c ∷ w) h =
    let t = tail_word b c w h.dark in
    longer_word b (c ∷ w) t.0 t.1 ∙ ap (with_front_byte b) (words_last (c ∷ w) t.2)

pub words_joined : (w : List ℕ) (ws : List (List ℕ)) → IsDarkWord w → AllByRecursion IsDarkWord ws → words_of (join_with_byte 32 (w ∷ ws)) ≡ w ∷ ws
words_joined w [] h each = words_last w h
words_joined w (x ∷ ws) h each = words_front w (join_with_byte 32 (x ∷ ws)) h ∙ ap (λ (y : List (List ℕ)). w ∷ y) (words_joined x ws each.0 each.1)

pub printable_joined : (w : List ℕ) (ws : List (List ℕ)) → IsDarkWord w → AllByRecursion IsDarkWord ws → is_printable (join_with_byte 32 (w ∷ ws)) ≡ true
printable_joined w [] h each = dark_printable w h.dark
printable_joined w (x ∷ ws) h each = printable_both w (32 ∷ join_with_byte 32 (x ∷ ws)) (dark_printable w h.dark) (printable_joined x ws each.0 each.1)
