-- How far rows are read. No public clause names this.
use Rattle.std.specs.Prelude.{◌≡◌, ℕ, List, [], ◌∷◌, ◌++◌, length, map, Option, Some, None}
use Rattle.std.specs.List.{All, concat}
use Rattle.game_core.specs.declared.game.Row.{Row}
use Rattle.row_runs.specs.declared.run.Run.{Run}
use Rattle.row_runs.specs.Runs.{AreRuns, EncodeRows}
use Rattle.row_runs.specs.RunText.{run_line}
use Rattle.text_pieces.specs.Steps.{IsFirstRefused}
use Rattle.row_reading.specs.declared.row_rules.RowRules.{RowRules}
use Rattle.row_reading.specs.declared.row_rules.TurnHead.{TurnHead}
use Rattle.row_reading.specs.RowsTexts.{row_lines, IsRunWithin, AreRowsWithin}
use Rattle.row_reading.specs.TurnSteps.{AfterTurns, TurnStep, AreOver}

-- So many lines of rows stand at the front, and give these rows.
pub record AreRowsAt (rules : RowRules) (count : ℕ) (bytes : List ℕ) (rows : List (Option Row)) (rest : List ℕ) : Type 0 where
  pub within : AreRowsWithin rules rows
  pub counted : length (row_lines rules.version rules.format rows) ≡ count
  pub text : bytes ≡ concat (row_lines rules.version rules.format rows) ++ rest

-- the n-th line, from 1, is the first that is refused where so many row lines are due, in whichever turn
abbrev pub IsRunRefused : RowRules → ℕ → List ℕ → ℕ → Type 0
IsRunRefused rules count bytes n =
    (turns : ℕ) (head : TurnHead) (j : ℕ) →
    IsFirstRefused (TurnStep (record { rows = rules; turns = turns; head = head })) AreOver (AfterTurns j count None) bytes n

-- the last of some runs, or the one before them
abbrev pub last_after : Option Run → List Run → Option Run
last_after before [] = before
last_after before (r ∷ runs) = last_after (Some r) runs

-- Runs that rules allow, one after another.
pub record AreRunsWithin (rules : RowRules) (runs : List Run) : Type 0 where
  pub order : AreRuns rules.version runs
  pub each : All (IsRunWithin rules) runs

-- The lines of so many runs are read, which give the rows.
pub record AreRead (rules : RowRules) (count : ℕ) (last : Option Run) (bytes rest : List ℕ) (rows : List (Option Row)) : Type 0 where
  pub one_each : length rows ≡ rules.cells
  pub runs : List Run
  pub are : AreRunsWithin rules runs
  pub tell : EncodeRows runs rows
  pub counted : length runs ≡ count
  pub last_is : last ≡ last_after None runs
  pub text : bytes ≡ concat (map (run_line rules.version rules.format) runs) ++ rest
