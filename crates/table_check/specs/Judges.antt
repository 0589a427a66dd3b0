-- Rows by which the cells of games are judged.
use Rattle.std.specs.Prelude.{◌≡◌, ℕ, ◌<◌, List, length, Option, Some}
use Rattle.game_core.specs.declared.game.Row.{Row}
use Rattle.game_core.specs.Solution.{row_of}
use Rattle.table_check.specs.declared.judge.RowJudge.{RowJudge}

-- the rows of a judge
abbrev pub judged_rows : RowJudge → List (Option Row)
judged_rows judge = judge.rows.now

-- In games of so many cells and inputs rows can be judged: one optional row for each cell, of a lower rank than there are cells.
pub record CanJudge (rows : List (Option Row)) (cells inputs : ℕ) : Type 0 where
  pub one_each : length rows ≡ cells
  pub ranks : (c : ℕ) (row : Row) → row_of rows c ≡ Some row → row.rank < cells
  pub inputs_are : (c : ℕ) (row : Row) → row_of rows c ≡ Some row → row.input < inputs
