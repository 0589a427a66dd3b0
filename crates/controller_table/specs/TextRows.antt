-- The rows that a text has at a state, whatever its kind.
use Rattle.std.specs.Prelude.{ℕ, ℤ, List, Option}
use Rattle.game_core.specs.declared.game.Row.{Row}
use Rattle.plant_record.specs.Description.{Description}
use Rattle.turn_rows.specs.Rows.{rows_for}
use Rattle.controller_table.specs.declared.text_kind.TextKind.{TextKind}
use Rattle.controller_table.specs.KindTexts.{IsTextOf}
use Rattle.controller_table.specs.Choice.{HasRowAt}

-- The bytes are a text of the kind in which the state's cell has this row for a turn.
pub record HasTextRow (kind : TextKind) (bytes : List ℕ) (j : ℕ) (x : List ℤ) (row : Row) : Type 0 where
  pub plant : Description
  pub turns : List (List (Option Row))
  pub text : IsTextOf kind bytes plant turns
  pub has : HasRowAt plant (rows_for turns j) x row
