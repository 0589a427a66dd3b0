-- Numbers that are read.
use Rattle.std.specs.Prelude.{◌≡◌, ℕ, ◌^◌, ◌<◌, List, ◌∷◌, ◌++◌}
use Rattle.std.specs.Fmt.{decimal}

-- a number of 32 bits, as it is spelled, and what stands after the byte that ends it
abbrev pub IsNumberTo : ℕ → List ℕ → ℕ × List ℕ → Type 0
IsNumberTo stop bytes (n, after) = (n < 2 ^ 32) × (bytes ≡ decimal n ++ stop ∷ after)
