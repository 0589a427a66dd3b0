-- How the lines of turns are read. No public clause names this.
use Rattle.std.specs.Prelude.{◌≡◌, ℕ, ◌≤◌, List, ◌∷◌, ◌++◌, length, Option, codes}
use Rattle.std.specs.List.{All, concat}
use Rattle.std.specs.Fmt.{decimal}
use Rattle.game_core.specs.declared.game.Row.{Row}
use Rattle.row_runs.specs.declared.run.Run.{Run}
use Rattle.row_runs.specs.RunText.{count_line}
use Rattle.text_pieces.specs.Steps.{IsFirstRefused}
use Rattle.row_reading.specs.declared.row_rules.TurnHead.{TurnHead}
use Rattle.row_reading.specs.declared.row_rules.TurnRules.{TurnRules}
use Rattle.row_reading.specs.RowsTexts.{head_line, lines_from, AreRowsWithin}
use Rattle.row_reading.specs.TurnSteps.{AfterTurns, TurnStep, AreOver}
use Rattle.row_reading.specs.inside.ReadRows.{AreRowsAt}

-- the line that says how many row lines there are, at most this number, and what stands after it
abbrev pub IsCountAt : ℕ → List ℕ → ℕ × List ℕ → Type 0
IsCountAt most bytes y = (y.0 ≤ most) × (bytes ≡ count_line y.0 ++ y.1)

-- the number of a turn, and what stands after it
abbrev pub IsNumberAt : ℕ → List ℕ → List ℕ → Type 0
IsNumberAt turn bytes rest = bytes ≡ codes "turn " ++ (decimal turn ++ 32 ∷ rest)

-- the line before the rows of a turn, with so many row lines, at most this number, and what stands after it
abbrev pub IsHeadAt : TurnHead → ℕ → ℕ → List ℕ → ℕ × List ℕ → Type 0
IsHeadAt head turn most bytes y = (y.0 ≤ most) × (bytes ≡ head_line head turn y.0 ++ y.1)

-- The line of a turn and so many row lines stand at the front, and give these rows.
pub record IsTurnRead (rules : TurnRules) (turn count : ℕ) (bytes : List ℕ) (rows : List (Option Row)) (after : List ℕ) : Type 0 where
  pub rest : List ℕ
  pub first : IsHeadAt rules.head turn rules.rows.cells bytes (count, rest)
  pub at : AreRowsAt rules.rows count rest rows after

-- the n-th line, from 1, is the first that is refused: the turn's own, or a row line after it
abbrev pub IsTurnRefused : TurnRules → ℕ → List ℕ → ℕ → Type 0
IsTurnRefused rules turn bytes n = (last : Option Run) → IsFirstRefused (TurnStep rules) AreOver (AfterTurns turn 0 last) bytes n

-- The lines of so many turns are read, so many lines, which give the rows.
pub record AreTurnsRead (rules : TurnRules) (j lines : ℕ) (bytes rest : List ℕ) (turns : List (List (Option Row))) : Type 0 where
  pub size : length turns ≡ j
  pub within : All (AreRowsWithin rules.rows) turns
  pub counted : length (lines_from rules 0 turns) ≡ lines
  pub text : bytes ≡ concat (lines_from rules 0 turns) ++ rest
