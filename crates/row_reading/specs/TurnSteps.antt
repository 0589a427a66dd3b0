-- Which line may come next where rows are given turn by turn: the line before a turn's rows, its row lines, those of the next turn,
-- and the end.
use Rattle.std.specs.Prelude.{◌≡◌, ◌⊎◌, ℕ, zero, suc, ◌+◌, ◌<◌, ◌≤◌, List, [], Option, Some, None}
use Rattle.row_runs.specs.declared.run.Run.{Run}
use Rattle.row_runs.specs.declared.run.TableVersion.{TableVersion}
use Rattle.row_runs.specs.Runs.{HasCells, MayFollow}
use Rattle.row_runs.specs.RunText.{run_line, end_line}
use Rattle.text_pieces.specs.Steps.{IsFirstRefused}
use Rattle.row_reading.specs.declared.row_fault.RowFault.{RowFault}
use Rattle.row_reading.specs.declared.row_fault.RowFault.TheVariants.{Malformed, Memory}
use Rattle.row_reading.specs.declared.row_rules.RowRules.{RowRules}
use Rattle.row_reading.specs.declared.row_rules.TurnRules.{TurnRules}
use Rattle.row_reading.specs.RowsTexts.{head_line, IsRunWithin}

-- a run may stand after the last one, if there is one
abbrev pub MayStandAfter : TableVersion → Option Run → Run → Type 0
MayStandAfter version None r = Unit {0}
MayStandAfter version (Some last) r = MayFollow version last r

-- A run that may come next, and its line.
pub record IsNextRow (rules : RowRules) (last : Option Run) (r : Run) (line : List ℕ) : Type 0 where
  pub cells : HasCells rules.version r
  pub within : IsRunWithin rules r
  pub follows : MayStandAfter rules.version last r
  pub line_is : line ≡ run_line rules.version rules.format r

-- the lines of so many turns stand, but for so many row lines that are due after the last one; or all stand
pub data TurnState : Type 0 where
  AfterTurns : (turns rows : ℕ) (last : Option Run) → TurnState
  AfterAll : TurnState

-- a line leads from one state to the next: while rows are due, a row line; then the line before the next turn's rows, or after all turns the end
abbrev pub TurnStep : TurnRules → TurnState → List ℕ → TurnState → Type 0
TurnStep rules (AfterTurns j zero last) line to =
    ((j < rules.turns) × (n : ℕ) × (n ≤ rules.rows.cells) × (line ≡ head_line rules.head j n) × (to ≡ AfterTurns (suc j) n None))
    ⊎ ((j ≡ rules.turns) × (line ≡ end_line) × (to ≡ AfterAll))
TurnStep rules (AfterTurns j (suc n) last) line to = (r : Run) × IsNextRow rules.rows last r line × (to ≡ AfterTurns j n (Some r))
TurnStep rules AfterAll line to = ⊥

-- the rows are given after the end, with no bytes left
abbrev pub AreOver : TurnState → List ℕ → Type 0
AreOver (AfterTurns j n last) rest = ⊥
AreOver AfterAll rest = rest ≡ []

-- the n-th line, from 1, is the first that is refused where rows are given turn by turn
abbrev pub AreTurnsRefusedAt : TurnRules → List ℕ → ℕ → Type 0
AreTurnsRefusedAt rules bytes n = IsFirstRefused (TurnStep rules) AreOver (AfterTurns 0 0 None) bytes n

-- a line that is refused is refused so
abbrev pub IsRefusedAt : (ℕ → Type 0) → RowFault → Type 0
IsRefusedAt IsRefused (Malformed line) = IsRefused line
IsRefusedAt IsRefused Memory = Unit {0}

-- the fault where so many lines stand before
abbrev pub fault_after : ℕ → RowFault → RowFault
fault_after lines (Malformed line) = Malformed (lines + line)
fault_after lines Memory = Memory
