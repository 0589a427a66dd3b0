-- How far an operation on many lanes has come.
use Rattle.std.specs.Prelude.{◌≡◌, ℕ, ◌<◌, ◌≤◌, ℤ, List, length}
use Rattle.fixed_expr.specs.declared.lanes.TheConstants.{LANES}
use Rattle.fixed_expr.specs.NarrowValues.{IsNarrow}
use Rattle.fixed_expr.specs.Lanes.{at}

-- The first n lanes are done, and the others as they were.
pub record AreDone (n : ℕ) (start found : List ℤ) (wanted : ℕ → ℤ) : Type 0 where
  pub long : length found ≡ LANES
  pub done : (k : ℕ) → k < n → IsNarrow (wanted k) × (at found k ≡ wanted k)
  pub rest : (k : ℕ) → n ≤ k → at found k ≡ at start k
