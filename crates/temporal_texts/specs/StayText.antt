-- The text of a plant with its rows of reach and stay.
use Rattle.std.specs.Prelude.{ℕ, ℤ, List, [], ◌∷◌, Option}
use Rattle.game_core.specs.declared.game.Row.{Row}
use Rattle.plant_record.specs.Description.{Description}
use Rattle.controller_table.specs.declared.text_kind.TextKind.TheVariants.{Stay}
use Rattle.controller_table.specs.KindTexts.{rows_text, IsTextOf}
use Rattle.controller_table.specs.TextRows.{HasTextRow}

-- the text of a plant and of one optional row for each of its cells: of one turn, and the lines of runs have the rank and the input
abbrev pub stay_text : Description → List (Option Row) → List ℕ
stay_text p rows = rows_text Stay p (rows ∷ [])

-- What a stay text says.
pub record StayModel : Type 0 where
  pub plant : Description
  pub rows : List (Option Row)

-- the bytes are the stay text of a plant within the limits and of rows that its rules allow
abbrev pub IsStayText : List ℕ → Description → List (Option Row) → Type 0
IsStayText bytes p rows = IsTextOf Stay bytes p (rows ∷ [])

-- the bytes are a stay text in which the state's cell has this row: its input is applied, whatever its rank
abbrev pub HasStayRow : List ℕ → List ℤ → Row → Type 0
HasStayRow bytes x row = HasTextRow Stay bytes 0 x row
