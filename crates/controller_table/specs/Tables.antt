-- Tables: a plant, and one optional row for each of its cells.
use Rattle.std.specs.Prelude.{ℕ, List, [], ◌∷◌, Option}
use Rattle.game_core.specs.declared.game.Row.{Row}
use Rattle.plant_record.specs.Description.{Description}
use Rattle.row_runs.specs.declared.run.TableVersion.{TableVersion}
use Rattle.row_reading.specs.RowsTexts.{AreRowsWithin}
use Rattle.controller_table.specs.TableText.{written_version}
use Rattle.controller_table.specs.TextKinds.{rules_of}
use Rattle.controller_table.specs.declared.text_kind.TextKind.TheVariants.{Table}
use Rattle.controller_table.specs.KindTexts.{IsTextOf}

-- What a table holds, and the version of the text that it was read from.
pub record TableModel : Type 0 where
  pub version : TableVersion
  pub plant : Description
  pub rows : List (Option Row)

-- for each cell of the plant one optional row that its tables, of either version, may give the cell
abbrev pub RowsFit : Description → List (Option Row) → Type 0
RowsFit p rows = AreRowsWithin (rules_of written_version p) rows

-- the bytes are the table of a plant within the limits and of rows that fit it, in this version
abbrev pub IsTableIn : TableVersion → List ℕ → Description → List (Option Row) → Type 0
IsTableIn version bytes p rows = IsTextOf (Table version) bytes p (rows ∷ [])

-- the bytes are such a table, in either version
abbrev pub IsTable : List ℕ → Description → List (Option Row) → Type 0
IsTable bytes p rows = (version : TableVersion) × IsTableIn version bytes p rows
