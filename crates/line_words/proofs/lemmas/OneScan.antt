-- The tokens of a text by one scan over its bytes.
use Rattle.std.proofs.Common.{◌≡◌, ℕ, ◌<◌, ◌≤◌, Bool, true, false, cond, eqb, leb, List, [], ◌∷◌, ◌++◌, length, refl, sym, ap, ◌∙◌, append_assoc, arith, not, ◌||◌, ◌&&◌, inl, inr}
use Rattle.std.specs.List.{list_all, flat_map}
use Rattle.std.proofs.lemmas.Bool.{and_parts, not-true, or_cases, eqb-true, leb-true, or_parts}
use Rattle.std.proofs.lemmas.List.{append-nil}
use Rattle.line_words.specs.LineTokens.{tokens_in}
use Rattle.line_words.specs.Names.{is_letter, is_digit, is_name_byte, IsName}
use Rattle.line_words.specs.Words.{words_of, is_blank, ends_word}
use Rattle.line_words.specs.Lines.{with_front_byte}
use Rattle.line_words.specs.Tokens.{goes_on, tokens_after, tokens_of}
use Rattle.line_words.proofs.lemmas.Booleans.{and_false, or_true}
use Rattle.line_words.proofs.lemmas.WhereCut.{above_space}

-- a token that is begun, if one is
abbrev pub flushed : List ℕ → List (List ℕ) → List (List ℕ)
flushed [] tokens = tokens
flushed (b ∷ token) tokens = (b ∷ token) ∷ tokens

-- the tokens of a text after a token that is begun, which is empty where none is
abbrev pub scan : List ℕ → List ℕ → List (List ℕ)
scan token [] = flushed token []
scan token (b ∷ text) = cond (is_blank b) (flushed token (scan [] text)) (cond (goes_on token b) (scan (token ++ b ∷ []) text) (token ∷ scan (b ∷ []) text))

-- the tokens of the words of which the first goes on with a token
abbrev pub after : List ℕ → List (List ℕ) → List (List ℕ)
after token [] = token ∷ []
after token (word ∷ words) = tokens_after token word ++ flat_map tokens_of words

abbrev pub begun : List ℕ → List ℕ → List (List ℕ)
begun token text = cond (ends_word text) (token ∷ tokens_in text) (after token (words_of text))

-- ---- the scan agrees with words and tokens

cond_append : (t : Bool) (x y z : List (List ℕ)) → cond t x y ++ z ≡ cond t (x ++ z) (y ++ z)
cond_append true x y z = refl
cond_append false x y z = refl

cond_cons : (t : Bool) (w : List ℕ) (x y : List (List ℕ)) → cond t (w ∷ x) (w ∷ y) ≡ w ∷ cond t x y
cond_cons true w x y = refl
cond_cons false w x y = refl

joined_after : (token : List ℕ) (b : ℕ) (words : List (List ℕ)) → after token (with_front_byte b words) ≡ cond (goes_on token b) (after (token ++ b ∷ []) words) (token ∷ after (b ∷ []) words)
joined_after token b [] = append-nil (cond (goes_on token b) ((token ++ b ∷ []) ∷ []) (token ∷ (b ∷ []) ∷ []))
joined_after token b (word ∷ words) = cond_append (goes_on token b) (tokens_after (token ++ b ∷ []) word) (token ∷ tokens_after (b ∷ []) word) (flat_map tokens_of words)

-- the first of the words, where no token is begun before it
joined_fresh : (b : ℕ) (words : List (List ℕ)) → flat_map tokens_of (with_front_byte b words) ≡ after (b ∷ []) words
joined_fresh b [] = refl
joined_fresh b (word ∷ words) = refl

at_blank : (c : ℕ) (token : List ℕ) (b : ℕ) (text : List ℕ) → is_blank b ≡ true → scan [] text ≡ tokens_in text → scan (c ∷ token) (b ∷ text) ≡ begun (c ∷ token) (b ∷ text)
at_blank c token b text blank fresh = rw blank (ap (λ (ts : List (List ℕ)). (c ∷ token) ∷ ts) fresh)

at_dark : (u : Bool) (token : List ℕ) (b : ℕ) (text : List ℕ) → is_blank b ≡ false → ends_word text ≡ u → scan (token ++ b ∷ []) text ≡ begun (token ++ b ∷ []) text → scan (b ∷ []) text ≡ begun (b ∷ []) text
    → scan token (b ∷ text) ≡ begun token (b ∷ text)
at_dark true token b text dark ends longer next =
    rw (dark, longer, next, ends) (sym (cond_append (goes_on token b) ((token ++ b ∷ []) ∷ []) (token ∷ (b ∷ []) ∷ []) (tokens_in text)))
at_dark false token b text dark ends longer next = rw (dark, longer, next, ends) (sym (joined_after token b (words_of text)))

fresh_dark : (u : Bool) (b : ℕ) (text : List ℕ) → is_blank b ≡ false → ends_word text ≡ u → scan (b ∷ []) text ≡ begun (b ∷ []) text → scan [] (b ∷ text) ≡ tokens_in (b ∷ text)
fresh_dark true b text dark ends next = rw (dark, next, ends) refl
fresh_dark false b text dark ends next = rw (dark, next, ends) (sym (joined_fresh b (words_of text)))

abbrev Agrees : List ℕ → Type 0
Agrees text = (scan [] text ≡ tokens_in text) × ((c : ℕ) (token : List ℕ) → scan (c ∷ token) text ≡ begun (c ∷ token) text)

one_more : (t : Bool) (b : ℕ) (text : List ℕ) → is_blank b ≡ t → Agrees text → Agrees (b ∷ text)
one_more true b text blank before = (rw blank before.0, λ c token. at_blank c token b text blank before.0)
one_more false b text dark before = (
  fresh_dark (ends_word text) b text dark refl (before.1 b []),
  λ c token. at_dark (ends_word text) (c ∷ token) b text dark refl (before.1 c (token ++ b ∷ [])) (before.1 b []),
)

agrees : (text : List ℕ) → Agrees text
agrees [] = (refl, λ c token. refl)
agrees (b ∷ text) = one_more (is_blank b) b text refl (agrees text)

pub scan_is : (text : List ℕ) → scan [] text ≡ tokens_in text
scan_is text = (agrees text).0

-- ---- tokens at the front

-- a byte that is a token by itself
pub symbol_front : (b : ℕ) (text : List ℕ) → is_blank b ≡ false → is_letter b ≡ false → is_digit b ≡ false → scan [] (b ∷ text) ≡ (b ∷ []) ∷ scan [] text
symbol_front b [] dark letter digit = rw dark refl
symbol_front b (c ∷ text) dark letter digit = rw (dark, letter, digit) (cond_cons (is_blank c) (b ∷ []) (scan [] text) (scan (c ∷ []) text))

-- no name and no number goes on
abbrev pub is_break : List ℕ → Bool
is_break [] = true
is_break (b ∷ text) = not (is_name_byte b)

-- bytes that go on with a token of this first byte
abbrev pub is_run : ℕ → List ℕ → Bool
is_run c w = list_all (λ b. not (is_blank b) && goes_on (c ∷ []) b) w

-- what is no name byte goes on with no token
stops : (c b : ℕ) (token : List ℕ) → not (is_name_byte b) ≡ true → goes_on (c ∷ token) b ≡ false
stops c b token h =
    let name : is_name_byte b ≡ false = not-true (is_name_byte b) h in
    let digit : is_digit b ≡ false = (or_parts (is_digit b) (eqb b 95) (or_parts (is_letter b) (is_digit b || eqb b 95) name).1).0 in
    rw (name, digit, and_false (is_letter c), and_false (is_digit c)) refl

run : (c : ℕ) (token w text : List ℕ) → is_run c w ≡ true → is_break text ≡ true → scan (c ∷ token) (w ++ text) ≡ (c ∷ token ++ w) ∷ scan [] text
run c token [] [] goes ends = ap (λ (t : List ℕ). (c ∷ t) ∷ []) (sym (append-nil token))
run c token [] (b ∷ text) goes ends = rw (stops c b token ends, append-nil token) (cond_cons (is_blank b) (c ∷ token) (scan [] text) (scan (b ∷ []) text))
run c token (b ∷ w) text goes ends =
    let parts = and_parts (not (is_blank b) && goes_on (c ∷ []) b) (is_run c w) goes in
    let here = and_parts (not (is_blank b)) (goes_on (c ∷ []) b) parts.0 in
    let dark : is_blank b ≡ false = not-true (is_blank b) here.0 in
    let on : goes_on (c ∷ token) b ≡ true = here.1 in
    rw (dark, on) (run c (token ++ b ∷ []) w text parts.1 ends ∙ ap (λ (t : List ℕ). (c ∷ t) ∷ scan [] text) (append_assoc token (b ∷ []) w))

-- a name or a number
pub run_front : (c : ℕ) (w text : List ℕ) → is_blank c ≡ false → is_run c w ≡ true → is_break text ≡ true → scan [] ((c ∷ w) ++ text) ≡ (c ∷ w) ∷ scan [] text
run_front c w text dark goes ends = rw dark (run c [] w text goes ends)

-- ---- names and numbers

-- the least byte of a name is a digit
pub name_byte_above : (b : ℕ) → is_name_byte b ≡ true → 47 < b
name_byte_above b h =
    elim (or_cases (is_letter b) (is_digit b || eqb b 95) h) [
      | inl l ↦
          elim (or_cases (leb 65 b && leb b 90) (leb 97 b && leb b 122) l) [
            | inl h ↦ omega (arith, leb-true 65 b (and_parts (leb 65 b) (leb b 90) h).0)
            | inr h ↦ omega (arith, leb-true 97 b (and_parts (leb 97 b) (leb b 122) h).0)
          ]
      | inr d ↦
          elim (or_cases (is_digit b) (eqb b 95) d) [
            | inl h ↦ omega (arith, leb-true 48 b (and_parts (leb 48 b) (leb b 57) h).0)
            | inr h ↦ omega (arith, eqb-true b 95 h)
          ]
    ]

name_run : (c : ℕ) (w : List ℕ) → is_letter c ≡ true → list_all is_name_byte w ≡ true → is_run c w ≡ true
name_run c [] letter names = refl
name_run c (b ∷ w) letter names =
    let parts = and_parts (is_name_byte b) (list_all is_name_byte w) names in
    let dark : is_blank b ≡ false = above_space b (omega (arith, name_byte_above b parts.0)) in
    rw (dark, letter, parts.0) (name_run c w letter parts.1)

digit_run : (c : ℕ) (w : List ℕ) → is_digit c ≡ true → list_all is_digit w ≡ true → is_run c w ≡ true
digit_run c [] digit digits = refl
digit_run c (b ∷ w) digit digits =
    let parts = and_parts (is_digit b) (list_all is_digit w) digits in
    let low : 48 ≤ b = leb-true 48 b (and_parts (leb 48 b) (leb b 57) parts.0).0 in
    let dark : is_blank b ≡ false = above_space b (omega (arith, low)) in
    rw (dark, digit, parts.0, or_true (is_letter c && (is_letter b || true))) (digit_run c w digit parts.1)

pub name_front : (w text : List ℕ) → IsName w → is_break text ≡ true → scan [] (w ++ text) ≡ w ∷ scan [] text
name_front [] text name ends = absurd cc
name_front (c ∷ w) text name ends =
    let first = and_parts (is_letter c) _ name in
    let all = and_parts (list_all is_name_byte (c ∷ w)) _ first.1 in
    let bytes = and_parts (is_name_byte c) (list_all is_name_byte w) all.0 in
    run_front c w text (above_space c (omega (arith, name_byte_above c bytes.0))) (name_run c w first.0 bytes.1) ends

pub digits_front : (w text : List ℕ) → list_all is_digit w ≡ true → 0 < length w → is_break text ≡ true → scan [] (w ++ text) ≡ w ∷ scan [] text
digits_front [] text digits some ends = absurd (omega (arith, some))
digits_front (c ∷ w) text digits some ends =
    let parts = and_parts (is_digit c) (list_all is_digit w) digits in
    let low : 48 ≤ c = leb-true 48 c (and_parts (leb 48 c) (leb c 57) parts.0).0 in
    run_front c w text (above_space c (omega (arith, low))) (digit_run c w parts.0 parts.1) ends
