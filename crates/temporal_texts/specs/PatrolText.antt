-- The text of a plant with its rows of patrol, turn by turn.
use Rattle.std.specs.Prelude.{ℕ, ℤ, List, length, Option}
use Rattle.game_core.specs.declared.game.Row.{Row}
use Rattle.grid_quantiser.specs.Cells.{cell_of}
use Rattle.plant_record.specs.Description.{Description, axes_of}
use Rattle.controller_table.specs.declared.text_kind.TextKind.TheVariants.{Patrol}
use Rattle.controller_table.specs.KindTexts.{rows_text, IsTextOf}
use Rattle.controller_table.specs.TextRows.{HasTextRow}
use Rattle.turn_rows.specs.Targets.{IsInTarget, next_turn}

-- the text of a plant and of one optional row for each turn and cell: the lines of runs have the rank and the input
abbrev pub patrol_text : Description → List (List (Option Row)) → List ℕ
patrol_text p rows = rows_text Patrol p rows

-- What a patrol text says.
pub record PatrolModel : Type 0 where
  pub plant : Description
  pub rows : List (List (Option Row))

-- the bytes are the patrol text of a plant within the limits and of rows that its rules allow, for each target
abbrev pub IsPatrolText : List ℕ → Description → List (List (Option Row)) → Type 0
IsPatrolText = IsTextOf Patrol

-- the bytes are a patrol text in which the state's cell has this row for a turn
abbrev pub HasPatrolRow : List ℕ → ℕ → List ℤ → Row → Type 0
HasPatrolRow bytes j x row = HasTextRow Patrol bytes j x row

-- The bytes are a patrol text of a plant in which the state's cell is an arrival: it lies in target j and has a row for the next turn.
pub record IsArrivalIn (bytes : List ℕ) (p : Description) (j : ℕ) (x : List ℤ) (row : Row) : Type 0 where
  pub target : IsInTarget p j (cell_of (axes_of p) x)
  pub next : HasPatrolRow bytes (next_turn (length p.targets) j) x row
