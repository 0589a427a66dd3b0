-- How right rows lead a plant down. No public clause names this.
use Rattle.std.specs.Prelude.{◌≡◌, ℕ, ◌<◌, ℤ, List, Option}
use Rattle.game_core.specs.declared.game.Row.{Row}
use Rattle.grid_quantiser.specs.Cells.{cell_of, point_of}
use Rattle.plant_record.specs.Description.{Description, axes_of, vectors_of}
use Rattle.plant_record.specs.Steps.{step_of, IsNoise}
use Rattle.successor_box.specs.SuccessorBoxes.{IsEnabledAt}
use Rattle.controller_table.specs.Choice.{HasRowAt}
use Rattle.plant_record.specs.States.{LiesInSome, IsClear}

-- A state with a row of a lower rank.
pub record HasLowerRow (p : Description) (rows : List (Option Row)) (rank : ℕ) (y : List ℤ) : Type 0 where
  pub row : Row
  pub has : HasRowAt p rows y row
  pub lower : row.rank < rank

-- At rank 0 a state with a row lies in a target; above it the row's input leads to lower ranks.
pub record LeadDown (p : Description) (rows : List (Option Row)) : Type 0 where
  pub clear : (x : List ℤ) (row : Row) → HasRowAt p rows x row → IsClear p x
  pub arrived : (x : List ℤ) (row : Row) → HasRowAt p rows x row → row.rank ≡ 0 → LiesInSome p p.targets x
  pub input : (x : List ℤ) (row : Row) → HasRowAt p rows x row → 0 < row.rank → row.input < vectors_of p.inputs
  pub enabled : (x : List ℤ) (row : Row) → HasRowAt p rows x row → 0 < row.rank → IsEnabledAt p (cell_of (axes_of p) x) row.input
  pub lower : (x w : List ℤ) (row : Row) → HasRowAt p rows x row → 0 < row.rank → IsNoise p.noises w → HasLowerRow p rows row.rank (point_of (step_of p x row.input w))
