-- What holds of the grid, the noises and the equations of every plant.
use Rattle.std.specs.Prelude.{◌≡◌, pos, ◌+ℤ◌, ℕ, List, length}
use Rattle.std.specs.List.{All}
use Rattle.fixed_expr.specs.Value.{IsWellFormed}
use Rattle.grid_quantiser.specs.Axes.{AreAxes, end_of}
use Rattle.plant_record.specs.declared.variables.StateVariable.{StateVariable}
use Rattle.plant_record.specs.declared.variables.InputVariable.{InputVariable}
use Rattle.plant_record.specs.Description.{Description, axis_of, axes_of, names_of, vector_of}
use Rattle.plant_record.specs.Variables.{IsNoiseVariable}
use Rattle.plant_record.specs.Plants.{IsPlant}

-- the cells along a state end right past its greatest number
abbrev pub IsFilledByCells : StateVariable → Type 0
IsFilledByCells s = end_of (axis_of s) ≡ s.high +ℤ pos 1

-- A plant whose ranges are divided into whole cells, with noises in order and a well-formed equation for each state.
pub record IsSound (p : Description) : Type 0 where
  pub axes : AreAxes (axes_of p)
  pub whole : All IsFilledByCells p.states
  pub noises : All IsNoiseVariable p.noises
  pub one_each : length p.equations ≡ length p.states
  pub formed : All (λ e. IsWellFormed e (length (names_of p))) p.equations

-- a plant has whole cells, and well-formed equations
abbrev pub PlantsAreSound : Type 0
PlantsAreSound = (p : Description) → IsPlant p → IsSound p

-- an input vector has one number for each input variable
abbrev pub VectorsHaveOneEach : Type 0
VectorsHaveOneEach = (inputs : List InputVariable) (u : ℕ) → length (vector_of inputs u) ≡ length inputs
