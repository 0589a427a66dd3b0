-- Rows that rules allow, turn by turn, and the lines that give them. A table has one turn.
use Rattle.std.specs.Prelude.{◌≡◌, ℕ, suc, ◌<◌, ◌≤◌, List, [], ◌∷◌, ◌++◌, length, map, Option, IfSome, codes}
use Rattle.std.specs.List.{All, concat}
use Rattle.std.specs.Fmt.{decimal}
use Rattle.base.specs.Lines.{line}
use Rattle.game_core.specs.declared.game.Row.{Row}
use Rattle.row_runs.specs.declared.row_format.RowFormat.{RowFormat}
use Rattle.row_runs.specs.declared.row_format.RowFormat.TheVariants.{InputAboveZero, InputAlone, Both}
use Rattle.row_runs.specs.declared.run.Run.{Run}
use Rattle.row_runs.specs.declared.run.TableVersion.{TableVersion}
use Rattle.row_runs.specs.Runs.{runs_from}
use Rattle.row_runs.specs.RunText.{run_line, count_line, end_line}
use Rattle.row_reading.specs.declared.row_rules.RowRules.{RowRules}
use Rattle.row_reading.specs.declared.row_rules.TurnHead.{TurnHead}
use Rattle.row_reading.specs.declared.row_rules.TurnHead.TheVariants.{Count, Numbered}
use Rattle.row_reading.specs.declared.row_rules.TurnRules.{TurnRules}

-- what a line of the row doesn't say is 0
abbrev pub Determines : RowFormat → Row → Type 0
Determines InputAboveZero row = row.rank ≡ 0 → row.input ≡ 0
Determines InputAlone row = row.rank ≡ 0
Determines Both row = Unit {0}

-- A row that a cell may have.
pub record IsRowWithin (rules : RowRules) (row : Row) : Type 0 where
  pub told : Determines rules.format row
  pub least : rules.least_rank ≤ row.rank
  pub most : row.rank ≤ rules.most_rank
  pub input : row.input < rules.vectors

-- A run of some of the cells, with a row that they may have.
pub record IsRunWithin (rules : RowRules) (r : Run) : Type 0 where
  pub cells : r.last < rules.cells
  pub row : IsRowWithin rules r.row

-- For each cell one optional row that it may have.
pub record AreRowsWithin (rules : RowRules) (rows : List (Option Row)) : Type 0 where
  pub one_each : length rows ≡ rules.cells
  pub each : All (λ row. IfSome row (IsRowWithin rules)) rows

-- the lines of all rows
abbrev pub row_lines : TableVersion → RowFormat → List (Option Row) → List (List ℕ)
row_lines version format rows = map (run_line version format) (runs_from version 0 rows)

-- the line before the rows of a turn: its number, where turns are numbered, and how many lines of rows follow
abbrev pub head_line : TurnHead → ℕ → ℕ → List ℕ
head_line Count j n = count_line n
head_line Numbered j n = line (codes "turn" ∷ decimal j ∷ codes "rows" ∷ decimal n ∷ [])

-- the lines of the turns from j on, by how a turn begins and how a row is printed
abbrev pub lines_by : TurnHead → TableVersion → RowFormat → ℕ → List (List (Option Row)) → List (List ℕ)
lines_by head version format j [] = []
lines_by head version format j (rows ∷ turns) = head_line head j (length (row_lines version format rows)) ∷ row_lines version format rows ++ lines_by head version format (suc j) turns

-- those by rules
abbrev pub lines_from : TurnRules → ℕ → List (List (Option Row)) → List (List ℕ)
lines_from rules j turns = lines_by rules.head rules.rows.version rules.rows.format j turns

-- the lines of all turns, and the end
abbrev pub turn_lines : TurnRules → List (List (Option Row)) → List (List ℕ)
turn_lines rules turns = lines_from rules 0 turns ++ end_line ∷ []

-- For each turn one optional row for each cell, which it may have.
pub record AreTurnsWithin (rules : TurnRules) (turns : List (List (Option Row))) : Type 0 where
  pub one_list_each : length turns ≡ rules.turns
  pub each : All (AreRowsWithin rules.rows) turns

-- The bytes give the rows of the turns: the lines of each, and the end.
pub record AreTurnsText (rules : TurnRules) (bytes : List ℕ) (turns : List (List (Option Row))) : Type 0 where
  pub within : AreTurnsWithin rules turns
  pub text : bytes ≡ concat (turn_lines rules turns)
