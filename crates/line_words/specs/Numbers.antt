-- How large a number a plant text may hold.
use Rattle.std.specs.Prelude.{◌<◌, ℤ, nat_abs}
use Rattle.base.specs.declared.limits.TheConstants.{NUMBER_LIMIT}

-- a number of at most 18 digits
abbrev pub IsLiteral : ℤ → Type 0
IsLiteral z = nat_abs z < NUMBER_LIMIT
