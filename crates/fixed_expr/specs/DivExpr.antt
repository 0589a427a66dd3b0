-- Quotients that round down.
use Rattle.std.specs.Prelude.{◌/◌, ℤ, pos, negsuc, nat_abs}

-- the floor of the quotient by a number above 0: -(n + 1) is below 0, so n / k whole steps and one more
abbrev pub floor_div : ℤ → ℤ → ℤ
floor_div (pos n) k = pos (n / nat_abs k)
floor_div (negsuc n) k = negsuc (n / nat_abs k)
