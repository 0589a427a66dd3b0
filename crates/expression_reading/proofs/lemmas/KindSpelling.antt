-- A token of a kind is spelled so, and what is spelled so has that kind.
use Rattle.std.proofs.Common.{◌≡◌, ◌≢◌, ℕ, zero, suc, ◌^◌, ◌<◌, Bool, true, false, cond, leb, List, [], ◌∷◌, length, get_or, Option, Some, None, refl, sym, ap, ◌∙◌, arith, not, inl, inr}
use Rattle.std.specs.Prelude.{codes, slice_get}
use Rattle.std.specs.List.{All, AllPairs, Contains, list_all}
use Rattle.std.specs.Option.{option_map}
use Rattle.std.specs.Str.{bytes_eq}
use Rattle.std.specs.Fmt.{decimal}
use Rattle.std.proofs.lemmas.Bool.{and_parts, or_parts}
use Rattle.std.proofs.lemmas.List.{get_or_default}
use Rattle.std.proofs.lemmas.Option.{slice_get_within, get_or_from_slice_get}
use Rattle.line_words.specs.Names.{is_letter, is_digit, is_name_byte, is_reserved, IsName}
use Rattle.expression_reading.specs.declared.token_kind.TokenKind.{TokenKind}
use Rattle.expression_reading.specs.declared.token_kind.TokenKind.TheVariants as kind
use Rattle.expression_reading.specs.TokenKinds.{AreNames, or_else, parse_symbol, parse_function, parse_literal, position_in, number_kind, leaf_of, kind_of, spelling_of, IsKind}
use Rattle.expression_reading.proofs.lemmas.Literals.{same, is_same, differs, first_differs, if_some, map_some, literal_again, literal_takes, digit_first}
use Rattle.line_words.proofs.lemmas.NumberBytes.{no_name}

-- ---- positions of names

no_position : (names : List (List ℕ)) (w : List ℕ) → ((i : ℕ) → i < length names → get_or names i [] ≡ w → ⊥) → position_in names w ≡ None
no_position [] w h = refl
no_position (name ∷ names) w h =
    let unlike : bytes_eq name w ≡ false = differs name w (h 0 (omega arith)) in
    let later : position_in names w ≡ None = no_position names w (λ i lt. h (suc i) (omega arith)) in
    rw (unlike, later) refl

first_position : (name : List ℕ) (names : List (List ℕ)) (w : List ℕ) (i : ℕ) → i ≡ 0 → name ≡ w → (i < length (name ∷ names)) × (get_or (name ∷ names) i [] ≡ w)
first_position name names w i z e = rw z (omega arith, e)

later_position : (name : List ℕ) (names : List (List ℕ)) (w : List ℕ) (i j : ℕ) → i ≡ suc j → j < length names → get_or names j [] ≡ w → (i < length (name ∷ names)) × (get_or (name ∷ names) i [] ≡ w)
later_position name names w i j s lt e = rw s (omega arith, e)

position_takes : (names : List (List ℕ)) (w : List ℕ) (i : ℕ) → position_in names w ≡ Some i → (i < length names) × (get_or names i [] ≡ w)
position_takes [] w i e = absurd cc
position_takes (name ∷ names) w i e =
    elim (if_some (bytes_eq name w) 0 (option_map suc (position_in names w)) i e) [
      | inl p ↦ first_position name names w i (sym p.1) (same name w p.0)
      | inr later ↦
          let m = map_some suc (position_in names w) i later in
          let t = position_takes names w m.0 m.1 in
          later_position name names w i m.0 (sym m.2) t.0 t.1
    ]

-- a list without its first name
rest_differs : (name : List ℕ) (names : List (List ℕ)) → AllPairs (λ (a : List ℕ) (b : List ℕ). a ≢ b) (name ∷ names) → AllPairs (λ (a : List ℕ) (b : List ℕ). a ≢ b) names
rest_differs name names h i j d lt within = h (suc i) (suc j) d (omega arith) (omega arith)

position_again : (names : List (List ℕ)) (i : ℕ) → AllPairs (λ (a : List ℕ) (b : List ℕ). a ≢ b) names → i < length names → position_in names (get_or names i []) ≡ Some i
position_again [] i h lt = absurd (omega arith)
position_again (name ∷ names) zero h lt = let alike : bytes_eq name name ≡ true = is_same name name refl in rw alike refl
position_again (name ∷ names) (suc i) h lt =
    let unlike : bytes_eq name (get_or names i []) ≡ false = differs name (get_or names i []) (h 0 (suc i) [] (omega arith) (omega arith)) in
    let later : position_in names (get_or names i []) ≡ Some i = position_again names i (rest_differs name names h) (omega arith) in
    rw (unlike, later) refl

no_number_named : (names : List (List ℕ)) (k : ℕ) → All IsName names → k < 10 ^ 18 → position_in names (decimal k) ≡ None
no_number_named names k each lt = no_position names (decimal k) (λ i within e. no_name k (get_or names i []) (omega arith) (each i [] within) (sym e))

placed_nowhere : (names : List (List ℕ)) (w : List ℕ) → (Contains names w → ⊥) → position_in names w ≡ None
placed_nowhere names w h = no_position names w (λ i lt e. h (i, lt, get_or_default names i w [] lt ∙ e))

-- ---- leaves, by the position that is found

pub leaf_named : (names : List (List ℕ)) (w : List ℕ) (i : ℕ) → AreNames names → slice_get names i ≡ Some w → kind.Variable i ≡ leaf_of names w
leaf_named names w i ok e =
    let within : i < length names = slice_get_within names i w e in
    let position : position_in names w ≡ Some i = ap (position_in names) (sym (get_or_from_slice_get names i w [] e)) ∙ position_again names i ok.differ within in
    rw position refl

pub leaf_unnamed : (names : List (List ℕ)) (w : List ℕ) (o : Option ℕ) → (Contains names w → ⊥) → o ≡ parse_literal w → number_kind o ≡ leaf_of names w
leaf_unnamed names w o h e = rw (placed_nowhere names w h, e) refl

-- ---- what is spelled so has the kind

-- a token that begins with a digit is no symbol and no function's name
number_token : (w : List ℕ) → is_digit (get_or w 0 0) ≡ true → (parse_symbol w ≡ None) × (parse_function w ≡ None)
number_token w d =
    let unlike : (v : List ℕ) → is_digit (get_or v 0 0) ≡ false → bytes_eq w v ≡ false = λ v bare. first_differs is_digit w v d bare in (
      rw (unlike (codes "+") refl, unlike (codes "-") refl, unlike (codes "*") refl, unlike (codes "/") refl, unlike (codes "(") refl, unlike (codes ")") refl, unlike (codes ",") refl, unlike (codes ":") refl) refl,
      rw (unlike (codes "min") refl, unlike (codes "max") refl, unlike (codes "abs") refl, unlike (codes "lut") refl) refl,
    )

not_true : (b : Bool) → not b ≡ true → b ≡ false
not_true true e = absurd cc
not_true false e = refl

-- nor is a name
name_token : (w : List ℕ) → IsName w → (parse_symbol w ≡ None) × (parse_function w ≡ None)
name_token w name =
    let a = and_parts (is_letter (get_or w 0 0)) _ name in
    let b = and_parts (list_all is_name_byte w) _ a.1 in
    let c = and_parts (leb (length w) 32) _ b.1 in
    let free = not_true (is_reserved w) c.1 in
    let no_min = or_parts (bytes_eq w (codes "min")) _ free in
    let no_max = or_parts (bytes_eq w (codes "max")) _ no_min.1 in
    let no_abs = or_parts (bytes_eq w (codes "abs")) _ no_max.1 in
    let unlike : (v : List ℕ) → is_letter (get_or v 0 0) ≡ false → bytes_eq w v ≡ false = λ v bare. first_differs is_letter w v a.0 bare in (
      rw (unlike (codes "+") refl, unlike (codes "-") refl, unlike (codes "*") refl, unlike (codes "/") refl, unlike (codes "(") refl, unlike (codes ")") refl, unlike (codes ",") refl, unlike (codes ":") refl) refl,
      rw (no_min.0, no_max.0, no_abs.0, no_abs.1) refl,
    )

pub kind_again : (names : List (List ℕ)) (t : TokenKind) → AreNames names → IsKind (length names) t → kind_of names (spelling_of names t) ≡ t
kind_again names (kind.Number k) ok h =
    let other = number_token (decimal k) (digit_first k h) in
    rw (other.0, other.1, no_number_named names k ok.each h, literal_again k h) refl
kind_again names (kind.Variable i) ok h =
    let other = name_token (get_or names i []) (ok.each i [] h) in
    rw (other.0, other.1, position_again names i ok.differ h) refl
kind_again names kind.Other ok h = absurd h
kind_again names t ok h = refl

-- ---- what has the kind is spelled so

found : (names : List (List ℕ)) (w v : List ℕ) (s t : TokenKind) (o : Option TokenKind) → v ≡ spelling_of names s → (o ≡ Some t → w ≡ spelling_of names t) → cond (bytes_eq w v) (Some s) o ≡ Some t → w ≡ spelling_of names t
found names w v s t o h later e =
    elim (if_some (bytes_eq w v) s o t e) [
      | inl p ↦ same w v p.0 ∙ h ∙ ap (spelling_of names) p.1
      | inr l ↦ later l
    ]

symbol_takes : (names : List (List ℕ)) (w : List ℕ) (t : TokenKind) → parse_symbol w ≡ Some t → w ≡ spelling_of names t
symbol_takes names w t e =
    found names w (codes "+") kind.Plus t _ refl (found names w (codes "-") kind.Minus t _ refl (found names w (codes "*") kind.Star t _ refl (found names w (codes "/") kind.Slash t _ refl
    (found names w (codes "(") kind.Open t _ refl (found names w (codes ")") kind.Close t _ refl (found names w (codes ",") kind.Comma t _ refl (found names w (codes ":") kind.Colon t None refl (λ none. absurd cc)))))))) e

function_takes : (names : List (List ℕ)) (w : List ℕ) (t : TokenKind) → parse_function w ≡ Some t → w ≡ spelling_of names t
function_takes names w t e =
    found names w (codes "min") kind.Min t _ refl (found names w (codes "max") kind.Max t _ refl (found names w (codes "abs") kind.Abs t _ refl (found names w (codes "lut") kind.Lut t None refl (λ none. absurd cc)))) e

number_takes : (names : List (List ℕ)) (w : List ℕ) (o : Option ℕ) → parse_literal w ≡ o → IsKind (length names) (number_kind o) → w ≡ spelling_of names (number_kind o)
number_takes names w None e h = absurd h
number_takes names w (Some k) e h = (literal_takes w k e).1

abbrev placed : List ℕ → Option ℕ → TokenKind
placed w o = or_else o (number_kind (parse_literal w)) (λ i. kind.Variable i)

leaf_takes : (names : List (List ℕ)) (w : List ℕ) (o : Option ℕ) → position_in names w ≡ o → IsKind (length names) (placed w o) → w ≡ spelling_of names (placed w o)
leaf_takes names w None e h = number_takes names w (parse_literal w) refl h
leaf_takes names w (Some i) e h = sym (position_takes names w i e).1

abbrev named : List (List ℕ) → List ℕ → Option TokenKind → TokenKind
named names w o = or_else o (leaf_of names w) (λ t. t)

word_takes : (names : List (List ℕ)) (w : List ℕ) (o : Option TokenKind) → parse_function w ≡ o → IsKind (length names) (named names w o) → w ≡ spelling_of names (named names w o)
word_takes names w (Some t) e h = function_takes names w t e
word_takes names w None e h = leaf_takes names w (position_in names w) refl h

any_takes : (names : List (List ℕ)) (w : List ℕ) (o : Option TokenKind) → parse_symbol w ≡ o → IsKind (length names) (or_else o (named names w (parse_function w)) (λ t. t)) → w ≡ spelling_of names (or_else o (named names w (parse_function w)) (λ t. t))
any_takes names w (Some t) e h = symbol_takes names w t e
any_takes names w None e h = word_takes names w (parse_function w) refl h

pub kind_takes : (names : List (List ℕ)) (w : List ℕ) → IsKind (length names) (kind_of names w) → w ≡ spelling_of names (kind_of names w)
kind_takes names w h = any_takes names w (parse_symbol w) refl h
