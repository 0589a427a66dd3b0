-- The step of a plant from one sample to the next.
use Rattle.std.specs.Prelude.{ℕ, ℤ, pos, ◌≤ℤ◌, List, [], ◌∷◌, ◌++◌, length, map, take, slice_index_or, Option, SomeIff}
use Rattle.std.specs.List.{All}
use Rattle.fixed_expr.specs.Expression.{Expression, NumExpr}
use Rattle.fixed_expr.specs.Value.{value_of, StaysInRange}
use Rattle.plant_record.specs.declared.variables.NoiseVariable.{NoiseVariable}
use Rattle.plant_record.specs.Description.{Description, vector_of}
use Rattle.grid_quantiser.specs.Cells.{point_of}

-- the values of the variables at a state, under an input and a noise
abbrev pub values_at : Description → List ℤ → ℕ → List ℤ → List ℤ
values_at p x u w = take (length p.states) x ++ vector_of p.inputs u ++ take (length p.noises) w

-- the equation of a state
abbrev pub equation_at : Description → ℕ → Expression
equation_at p i = slice_index_or p.equations i (NumExpr (pos 0))

-- the next state: the equations' values, all taken at the old state
abbrev pub step_of : Description → List ℤ → ℕ → List ℤ → List ℤ
step_of p x u w = map (λ e. value_of e (values_at p x u w)) p.equations

-- no node of an equation leaves the range
abbrev pub StepStaysInRange : Description → List ℤ → ℕ → List ℤ → Type 0
StepStaysInRange p x u w = All (λ e. StaysInRange e (values_at p x u w)) p.equations

-- an answer is given exactly where no node of an equation leaves the range, and then it is the next state
abbrev pub AnswersStep : Option (List ℤ) → Description → List ℤ → ℕ → List ℤ → Type 0
AnswersStep answer p x u w = SomeIff answer (StepStaysInRange p x u w) (point_of (step_of p x u w))

-- each noise lies between its ends
abbrev pub IsNoise : List NoiseVariable → List ℤ → Type 0
IsNoise [] w = Unit {0}
IsNoise (v ∷ noises) [] = ⊥
IsNoise (v ∷ noises) (x ∷ w) = (v.low ≤ℤ x) × (x ≤ℤ v.high) × IsNoise noises w
