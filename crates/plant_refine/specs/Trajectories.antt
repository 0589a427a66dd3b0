-- The run of a plant under the rows of a table, and where it first comes into a target.
use Rattle.std.specs.Prelude.{◌≡◌, ℕ, zero, suc, ◌<◌, ◌≤◌, ℤ, List, slice_get, Option, Some}
use Rattle.std.specs.List.{Contains}
use Rattle.game_core.specs.declared.game.Row.{Row}
use Rattle.grid_quantiser.specs.Cells.{point_of}
use Rattle.plant_record.specs.Description.{Description}
use Rattle.plant_record.specs.Steps.{step_of}
use Rattle.successor_box.specs.SuccessorBoxes.{AreSuccessors}
use Rattle.controller_table.specs.Choice.{Chooses}
use Rattle.plant_record.specs.States.{state_point, LiesInSome, IsClear}

-- a cell is a successor of the pair of a cell and an input
abbrev pub IsSuccessor : Description → ℕ → ℕ → ℕ → Type 0
IsSuccessor p cell input next = (cells : List ℕ) → AreSuccessors p cell input cells → Contains cells next

-- one sample later, under the input that the rows choose and a noise
abbrev pub StepsTo : Description → List (Option Row) → List ℤ → List ℤ → List ℤ → Type 0
StepsTo p rows x w y = (u : ℕ) × Chooses p rows x u × (y ≡ point_of (step_of p x u w))

-- the state at a sample of the run from x under the noises ws, as a point
abbrev pub IsStateAt : Description → List (Option Row) → List ℤ → List (List ℤ) → ℕ → List ℤ → Type 0
IsStateAt p rows x ws zero y = y ≡ state_point p x
IsStateAt p rows x ws (suc t) y = (z : List ℤ) × (w : List ℤ) × IsStateAt p rows x ws t z × (slice_get ws t ≡ Some w) × StepsTo p rows z w y

-- At sample n the run first lies in a target, in the state y; up to it no state lies in an obstacle or
-- outside the domain.
pub record ArrivesFirst (p : Description) (rows : List (Option Row)) (x : List ℤ) (ws : List (List ℤ)) (n : ℕ) (y : List ℤ) : Type 0 where
  pub state : IsStateAt p rows x ws n y
  pub arrived : LiesInSome p p.targets y
  pub first : (t : ℕ) (z : List ℤ) → t < n → IsStateAt p rows x ws t z → LiesInSome p p.targets z → ⊥
  pub clear : (t : ℕ) (z : List ℤ) → t ≤ n → IsStateAt p rows x ws t z → IsClear p z
