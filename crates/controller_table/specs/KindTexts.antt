-- The text of a kind, of a plant and its rows turn by turn.
use Rattle.std.specs.Prelude.{◌≡◌, ℕ, List, [], ◌∷◌, ◌++◌, Option}
use Rattle.std.specs.List.{concat}
use Rattle.game_core.specs.declared.game.Row.{Row}
use Rattle.plant_record.specs.Description.{Description}
use Rattle.plant_record.specs.Limits.{IsWithinLimits}
use Rattle.plant_writing.specs.CanonicalText.{text_of}
use Rattle.row_runs.specs.declared.run.TableVersion.{TableVersion}
use Rattle.row_reading.specs.RowsTexts.{turn_lines, AreTurnsWithin}
use Rattle.controller_table.specs.declared.text_kind.TextKind.{TextKind}
use Rattle.controller_table.specs.declared.text_kind.TextKind.TheVariants.{Table}
use Rattle.controller_table.specs.TableText.{written_version}
use Rattle.controller_table.specs.TextKinds.{first_line, turn_rules, HasFewTurnsFor}

-- What a text says: its kind, its plant, and for each turn one optional row for each cell.
pub record RowsModel : Type 0 where
  pub kind : TextKind
  pub plant : Description
  pub turns : List (List (Option Row))

-- the text of a kind: its first line, the plant's text, and the lines of all turns
abbrev pub rows_text : TextKind → Description → List (List (Option Row)) → List ℕ
rows_text kind p turns = first_line kind ++ text_of p ++ concat (turn_lines (turn_rules kind p) turns)

-- the text of a table, one optional row for each cell
abbrev pub table_text : TableVersion → Description → List (Option Row) → List ℕ
table_text version p rows = rows_text (Table version) p (rows ∷ [])

-- the text that a value in memory has
abbrev pub bytes_of_rows : RowsModel → List ℕ
bytes_of_rows t = rows_text t.kind t.plant t.turns

-- it is in the version in which texts are written: it isn't an older table
abbrev pub IsOfWrittenVersion : RowsModel → Type 0
IsOfWrittenVersion t = (turn_rules t.kind t.plant).rows.version ≡ written_version

-- The bytes are the text of a kind, of a plant within the limits with few enough turns, and of rows that the kind allows.
pub record IsTextOf (kind : TextKind) (bytes : List ℕ) (p : Description) (turns : List (List (Option Row))) : Type 0 where
  pub limits : IsWithinLimits p
  pub few : HasFewTurnsFor kind p
  pub within : AreTurnsWithin (turn_rules kind p) turns
  pub text : bytes ≡ rows_text kind p turns

-- What a value in memory holds of a text: a plant within the limits, with few enough turns, and rows that the kind allows.
pub record HoldsRows (t : RowsModel) : Type 0 where
  pub limits : IsWithinLimits t.plant
  pub few : HasFewTurnsFor t.kind t.plant
  pub within : AreTurnsWithin (turn_rules t.kind t.plant) t.turns
