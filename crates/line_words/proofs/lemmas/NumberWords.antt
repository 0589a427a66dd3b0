-- A number is one text, and is read back from its bits.
use Rattle.std.proofs.Common.{◌≡◌, ℕ, List, to_z, of_z}
use Rattle.std.specs.Prelude.{ℤ}
use Rattle.std.specs.Int.{w128}
use Rattle.std.specs.Fmt.{signed_decimal}
use Rattle.std.specs.Str.{IsUtf8}
use Rattle.std.proofs.lemmas.Int.{to_z-of_z}
use Rattle.std.proofs.lemmas.Fmt.{IsAscii-signed, signed_decimal_injective}
use Rattle.std.proofs.lemmas.Str.{IsUtf8-from_ascii}
use Rattle.line_words.specs.Numbers.{IsLiteral}
use Rattle.line_words.proofs.lemmas.Spelling.{short_number}
use Rattle.base.proofs.Integers.{literal_fits_wide}

pub text_of_number : (w : List ℕ) (z : ℤ) → IsLiteral z → w ≡ signed_decimal z → IsUtf8 w
text_of_number w z lt e = rw e (IsUtf8-from_ascii (signed_decimal z) (IsAscii-signed z (short_number z lt)))

-- two literals with one spelling are one
pub one_number : (y z : ℤ) → IsLiteral y → IsLiteral z → signed_decimal y ≡ signed_decimal z → y ≡ z
one_number y z y-lt z-lt e = signed_decimal_injective y z (short_number y y-lt) (short_number z z-lt) e

-- a literal is read back from its bits
pub whole : (z : ℤ) → IsLiteral z → to_z w128 (of_z w128 z) ≡ z
whole z lt = to_z-of_z w128 z (literal_fits_wide z lt)
