-- Numbers as they are spelled: in digits, and read as they stand.
use Rattle.std.proofs.Common.{◌≡◌, ℕ, ◌+◌, ◌%◌, ◌^◌, ◌<◌, true, leb, List, [], ◌∷◌, Some, refl, ap, ◌∙◌, arith, ◌&&◌}
use Rattle.std.specs.Prelude.{ℤ, pos, negsuc, Result}
use Rattle.std.specs.Int.{w64}
use Rattle.std.specs.Int.Signed.{mag}
use Rattle.std.specs.List.{list_all}
use Rattle.std.specs.Result.{result_ok}
use Rattle.std.specs.Str.Parse.{ParsesSigned}
use Rattle.std.specs.Fmt.{decimal, signed_decimal}
use Rattle.std.proofs.lemmas.Bool.{le-leb, and_from}
use Rattle.std.proofs.lemmas.Fmt.{decimal_by_steps, parse-signed_decimal}
use Rattle.std.proofs.lemmas.List.Folds.{list_all-append}
use Rattle.base.proofs.Integers.{literal_fits}
use Rattle.line_words.specs.Names.{is_digit}
use Rattle.line_words.specs.Numbers.{IsLiteral}

-- the bytes of a number are digits
pub one_digit : (n : ℕ) → n < 10 → is_digit (48 + n) ≡ true
one_digit n lt = and_from (leb 48 (48 + n)) (leb (48 + n) 57) (le-leb _ _ (omega arith)) (le-leb _ _ (omega arith))

pub decimal_digits : (n : ℕ) → n < 2 ^ 64 → list_all is_digit (decimal n) ≡ true
decimal_digits =
    decimal_by_steps (λ n ds. list_all is_digit ds ≡ true)
    (λ n lt. and_from (is_digit (48 + n)) true (one_digit n lt) refl)
    (λ n ds le h. list_all-append is_digit ds ((48 + n % 10) ∷ []) ∙ and_from (list_all is_digit ds) (is_digit (48 + n % 10) && true) h (and_from (is_digit (48 + n % 10)) true (one_digit (n % 10) (omega arith)) refl))

-- a number of 18 digits is one of 64 bits
pub short_number : (z : ℤ) → IsLiteral z → mag z < 2 ^ 63
short_number (pos n) lt = omega (arith, lt)
short_number (negsuc n) lt = omega (arith, lt)

-- it is read as it is spelled
pub parsed_number : {E : Type 0} (w : List ℕ) (z : ℤ) (r : Result ℤ E) → ParsesSigned w64 10 w r → IsLiteral z → w ≡ signed_decimal z → result_ok r ≡ Some z
parsed_number w z r parses lt e = ap result_ok (parse-signed_decimal w64 z w r (literal_fits z lt) (short_number z lt) e parses)
