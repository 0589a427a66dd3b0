-- A number that is read is spelled so, and what is spelled so is read.
use Rattle.std.proofs.Common.{◌≡◌, ◌≢◌, ℕ, ◌^◌, ◌<◌, Bool, true, false, cond, ltb, List, get_or, Option, Some, None, refl, sym, ap, subst, ◌∙◌, arith, ◌⊎◌, ◌&&◌, inl, inr}
use Rattle.std.specs.Prelude.{ℤ, pos, negsuc, nat_abs, ◌≤ℤ◌}
use Rattle.std.specs.Option.{option_map}
use Rattle.std.specs.Str.{bytes_eq}
use Rattle.std.specs.Str.Parse.{digits_value}
use Rattle.std.specs.Fmt.{decimal, signed_decimal}
use Rattle.std.proofs.lemmas.Int.{ints}
use Rattle.std.proofs.lemmas.Bool.{ltb-true, lt-ltb, and_parts, false_from_ne_true}
use Rattle.std.proofs.lemmas.Fmt.{decimal_is_IsNumeral, decimal_nonempty}
use Rattle.std.proofs.lemmas.Slice.Eq.{bytes_eq-Decides}
use Rattle.line_words.specs.Names.{is_digit}
use Rattle.line_words.specs.Numbers.{IsLiteral}
use Rattle.line_words.specs.Words.{IsSpellingOf}
use Rattle.expression_reading.specs.TokenKinds.{parse_literal}
use Rattle.line_words.proofs.lemmas.Spelling.{decimal_digits}
use Rattle.line_words.proofs.lemmas.NumberBytes.{first_digit}
use Rattle.line_words.proofs.lemmas.NumberWords.{one_number}

-- ---- tests

pub same : (w v : List ℕ) → bytes_eq w v ≡ true → w ≡ v
same w v e = (bytes_eq-Decides w v).0 e

pub is_same : (w v : List ℕ) → w ≡ v → bytes_eq w v ≡ true
is_same w v e = (bytes_eq-Decides w v).1 e

pub differs : (w v : List ℕ) → w ≢ v → bytes_eq w v ≡ false
differs w v ne = false_from_ne_true (bytes_eq w v) (λ e. ne (same w v e))

-- texts differ where a test of their first bytes does
pub first_differs : (p : ℕ → Bool) (w v : List ℕ) → p (get_or w 0 0) ≡ true → p (get_or v 0 0) ≡ false → bytes_eq w v ≡ false
first_differs p w v passes fails = differs w v (λ e. let again : p (get_or v 0 0) ≡ true = subst (λ (u : List ℕ). p (get_or u 0 0) ≡ true) e passes in absurd cc)

pub if_some : {A : Type 0} → (b : Bool) (x : A) (r : Option A) (y : A) → cond b (Some x) r ≡ Some y → ((b ≡ true) × (x ≡ y)) ⊎ (r ≡ Some y)
if_some true x r y e = inl (refl, cc)
if_some false x r y e = inr e

pub map_some : {A B : Type 0} → (f : A → B) (o : Option A) (y : B) → option_map f o ≡ Some y → (a : A) × (o ≡ Some a) × (f a ≡ y)
map_some f None y e = absurd cc
map_some f (Some a) y e = (a, refl, cc)

-- ---- literals

pub literal_again : (k : ℕ) → k < 10 ^ 18 → parse_literal (decimal k) ≡ Some k
unfolding parse_literal
literal_again k lt =
    let value : digits_value 10 (decimal k) ≡ k = (decimal_is_IsNumeral k (omega arith)).1 in
    let alike : bytes_eq (decimal k) (decimal k) ≡ true = is_same (decimal k) (decimal k) refl in
    let small : ltb k (10 ^ 18) ≡ true = lt-ltb _ _ lt in
    rw (value, alike, small) refl

pub literal_takes : (w : List ℕ) (k : ℕ) → parse_literal w ≡ Some k → (k < 10 ^ 18) × (w ≡ decimal k)
unfolding parse_literal
literal_takes w k e =
    let n = digits_value 10 w in
    elim (if_some (bytes_eq (decimal n) w && ltb n (10 ^ 18)) n None k e) [
      | inl p ↦
          let tests = and_parts (bytes_eq (decimal n) w) (ltb n (10 ^ 18)) p.0 in
          (subst (λ (j : ℕ). j < 10 ^ 18) p.1 (ltb-true _ _ tests.1), sym (same (decimal n) w tests.0) ∙ ap decimal p.1)
      | inr none ↦ absurd cc
    ]

no_literal : (w : List ℕ) → ((k : ℕ) → k < 10 ^ 18 → w ≡ decimal k → ⊥) → parse_literal w ≡ None
no_literal w h = none_if (parse_literal w) (λ k e. let t = literal_takes w k e in h k t.0 t.1)
  where
    none_if : (o : Option ℕ) → ((k : ℕ) → o ≡ Some k → ⊥) → o ≡ None
    none_if None h = refl
    none_if (Some k) h = absurd (h k refl)

-- what a number of the least spelling is read as
pub literal_written : (w : List ℕ) (z : ℤ) → pos 0 ≤ℤ z → IsLiteral z → w ≡ signed_decimal z → parse_literal w ≡ Some (nat_abs z)
literal_written w (pos k) sign lt e = ap parse_literal e ∙ literal_again k lt
literal_written w (negsuc k) sign lt e = absurd (omega (arith, ints))

-- no number, where the token is the spelling of none, or of one below 0
pub unspelled : (w : List ℕ) → ((z : ℤ) → IsSpellingOf z w → ⊥) → parse_literal w ≡ None
unspelled w none = no_literal w (λ k lt e. none (pos k) (lt, e))

pub below_zero : (w : List ℕ) (z : ℤ) → IsSpellingOf z w → z ≤ℤ negsuc 0 → parse_literal w ≡ None
below_zero w z spelled below = no_literal w (λ k lt e. let same : z ≡ pos k = one_number z (pos k) spelled.0 lt (sym spelled.1 ∙ e) in omega (arith, ints, below, same))

pub digit_first : (k : ℕ) → k < 10 ^ 18 → is_digit (get_or (decimal k) 0 0) ≡ true
digit_first k lt = first_digit (decimal k) (decimal_digits k (omega arith)) (decimal_nonempty k (omega arith))
