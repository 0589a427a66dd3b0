-- The range of the numbers that are computed with: from -(2^127 - 1) to 2^127 - 1.
use Rattle.std.specs.Prelude.{◌^◌, ◌<◌, ℤ, nat_abs}

-- a number lies in the range: its magnitude is below 2^127
abbrev pub IsInRange : ℤ → Type 0
IsInRange z = nat_abs z < 2 ^ 127
