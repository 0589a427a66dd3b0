-- Whole numbers in order, and those that fit in so many bits.
use Rattle.std.proofs.Common.{◌≡◌, ◌<◌, true, arith}
use Rattle.std.specs.Prelude.{ℤ, pos, nat_abs, FitsSigned, ◌+ℤ◌, ◌≤ℤ◌, ◌<ℤ◌, int_lt}
use Rattle.std.specs.Int.{w64, w128}
use Rattle.std.proofs.lemmas.Int.{ints}
use Rattle.base.specs.declared.limits.TheConstants.{NUMBER_LIMIT}

pub up_to : (x end high : ℤ) → x <ℤ end → end ≡ high +ℤ pos 1 → x ≤ℤ high
up_to x end high below is = omega (arith, ints, below, is)

pub less_from_int_lt : (x y : ℤ) → int_lt x y ≡ true → x <ℤ y
less_from_int_lt x y e = omega (arith, ints, e)

pub int_lt_from_less : (x y : ℤ) → x <ℤ y → int_lt x y ≡ true
int_lt_from_less x y h = grind (arith, ints)

pub literal_fits : (z : ℤ) → nat_abs z < NUMBER_LIMIT → FitsSigned w64 z
literal_fits z h = omega (arith, ints, h)

pub literal_fits_wide : (z : ℤ) → nat_abs z < NUMBER_LIMIT → FitsSigned w128 z
literal_fits_wide z h = omega (arith, ints, h)
