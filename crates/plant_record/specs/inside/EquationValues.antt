-- The values of equations, one for each state. No public clause names this.
use Rattle.std.specs.Prelude.{ℤ, List, map, Option, SomeIff}
use Rattle.std.specs.List.{All}
use Rattle.fixed_expr.specs.Expression.{Expression}
use Rattle.fixed_expr.specs.Value.{StaysInRange, value_of}
use Rattle.grid_quantiser.specs.Cells.{point_of}

-- an answer is given exactly where no node of the expressions leaves the range, and then it holds the value of each
abbrev pub EvaluatesEach : {T : Type 0} → (T → Expression) → Option (List ℤ) → List T → List ℤ → Type 0
EvaluatesEach seen answer es values = SomeIff answer (All (λ e. StaysInRange (seen e) values) es) (point_of (map (λ e. value_of (seen e) values) es))
