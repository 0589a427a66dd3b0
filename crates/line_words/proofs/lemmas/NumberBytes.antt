-- The bytes of numbers: none is a separator, and no number is a name.
use Rattle.std.proofs.Common.{◌≡◌, ℕ, suc, ◌^◌, ◌<◌, true, false, eqb, leb, List, [], ◌∷◌, length, get_or, refl, subst, arith, ◌&&◌, inl, inr}
use Rattle.std.specs.Prelude.{ℤ, pos, negsuc}
use Rattle.std.specs.List.{list_all}
use Rattle.std.specs.Fmt.{decimal, signed_decimal}
use Rattle.std.proofs.lemmas.Bool.{eqb-true, leb-true, and_parts, or_cases, false_from_ne_true}
use Rattle.std.proofs.lemmas.Fmt.{decimal_nonempty}
use Rattle.line_words.specs.Separators.{is_separator, is_word}
use Rattle.line_words.specs.Names.{is_digit, is_letter, IsName}
use Rattle.line_words.specs.Numbers.{IsLiteral}
use Rattle.line_words.proofs.lemmas.Spelling.{decimal_digits}

separator_is : (b : ℕ) → is_separator b ≡ true → (P : ℕ → Type 0) → P b → (Q : Type 0) → (P 32 → Q) → (P 10 → Q) → Q
separator_is b separates P h Q space feed =
    elim (or_cases (eqb b 32) (eqb b 10) separates) [
      | inl e ↦ space (subst P (eqb-true b 32 e) h)
      | inr e ↦ feed (subst P (eqb-true b 10 e) h)
    ]

digit_byte : (b : ℕ) → is_digit b ≡ true → is_separator b ≡ false
digit_byte b h = false_from_ne_true (is_separator b) (λ separates. separator_is b separates (λ x. is_digit x ≡ true) h ⊥ (λ e. absurd cc) (λ e. absurd cc))

digit_bytes : (w : List ℕ) → list_all is_digit w ≡ true → is_word w ≡ true
digit_bytes [] h = refl
digit_bytes (b ∷ w) h =
    let parts = and_parts (is_digit b) (list_all is_digit w) h in
    rw (digit_byte b parts.0) (digit_bytes w parts.1)

pub number_word : (z : ℤ) → IsLiteral z → is_word (signed_decimal z) ≡ true
number_word (pos n) lt = digit_bytes (decimal n) (decimal_digits n (omega arith))
number_word (negsuc n) lt = digit_bytes (decimal (suc n)) (decimal_digits (suc n) (omega arith))

pub first_digit : (w : List ℕ) → list_all is_digit w ≡ true → 0 < length w → is_digit (get_or w 0 0) ≡ true
first_digit [] h some = absurd (omega (arith, some))
first_digit (b ∷ w) h some = (and_parts (is_digit b) (list_all is_digit w) h).0

no_letter : (b : ℕ) → is_digit b ≡ true → is_letter b ≡ true → ⊥
no_letter b d l =
    let ds = and_parts (leb 48 b) (leb b 57) d in
    elim (or_cases (leb 65 b && leb b 90) (leb 97 b && leb b 122) l) [
      | inl h ↦ omega (arith, leb-true _ _ ds.1, leb-true _ _ (and_parts (leb 65 b) (leb b 90) h).0)
      | inr h ↦ omega (arith, leb-true _ _ ds.1, leb-true _ _ (and_parts (leb 97 b) (leb b 122) h).0)
    ]

pub no_name : (n : ℕ) (w : List ℕ) → n < 2 ^ 64 → IsName w → decimal n ≡ w → ⊥
no_name n w lt name e =
    let l : is_letter (get_or w 0 0) ≡ true = (and_parts (is_letter (get_or w 0 0)) _ name).0 in
    let d : is_digit (get_or (decimal n) 0 0) ≡ true = first_digit (decimal n) (decimal_digits n lt) (decimal_nonempty n lt) in
    no_letter (get_or w 0 0) (subst (λ (v : List ℕ). is_digit (get_or v 0 0) ≡ true) e d) l
