-- How the line of a run is read. No public clause names this.
use Rattle.std.specs.Prelude.{◌≡◌, ℕ, ◌^◌, ◌<◌, ◌≤◌, List, ◌∷◌, ◌++◌, Option}
use Rattle.std.specs.Fmt.{decimal}
use Rattle.game_core.specs.declared.game.Row.{Row}
use Rattle.row_runs.specs.declared.row_format.RowFormat.{RowFormat}
use Rattle.row_runs.specs.declared.run.Run.{Run}
use Rattle.row_runs.specs.declared.run.TableVersion.{TableVersion}
use Rattle.row_runs.specs.declared.run.TableVersion.TheVariants.{First, Second}
use Rattle.row_runs.specs.Runs.{HasCells}
use Rattle.row_runs.specs.RunText.{rank_field, input_field, run_line}
use Rattle.row_reading.specs.declared.row_rules.RowRules.{RowRules}
use Rattle.row_reading.specs.declared.row_rules.TurnRules.{TurnRules}
use Rattle.row_reading.specs.Numbers.{IsNumberTo}
use Rattle.row_reading.specs.RowsTexts.{Determines}
use Rattle.row_reading.specs.TurnSteps.{IsNextRow}

-- Numbers of 32 bits that a line gives.
pub record IsSpelledRow (format : RowFormat) (row : Row) : Type 0 where
  pub rank : row.rank < 2 ^ 32
  pub input : row.input < 2 ^ 32
  pub tells : Determines format row

-- a run that a line can spell: it has cells, and its numbers fit in 32 bits
pub record IsSpelled (version : TableVersion) (format : RowFormat) (r : Run) : Type 0 where
  pub first : r.first < 2 ^ 32
  pub last : r.last < 2 ^ 32
  pub cells : HasCells version r
  pub row : IsSpelledRow format r.row

-- what stands after the cells and their space: the words of a row, and what stands after their line
abbrev pub row_format : RowFormat → Row → List ℕ → List ℕ
row_format format row after = rank_field format row ++ 32 ∷ (input_field format row ++ 10 ∷ after)

-- the words of a row, and what stands after their line
abbrev pub IsRowAt : RowFormat → List ℕ → Row × List ℕ → Type 0
IsRowAt format words (row, after) = IsSpelledRow format row × (words ≡ row_format format row after)

-- what stands after a first cell and its space: in the second version the last cell and its space
abbrev pub last_words : TableVersion → ℕ → List ℕ → List ℕ
last_words First last after = after
last_words Second last after = decimal last ++ 32 ∷ after

-- the last cell of a run with this first one, and what stands after its space
abbrev pub IsLastAt : TableVersion → ℕ → List ℕ → ℕ × List ℕ → Type 0
IsLastAt First first words (last, after) = (first ≡ last) × (words ≡ after)
IsLastAt Second first words (last, after) = (first ≤ last) × IsNumberTo 32 words (last, after)

-- the line of a run, and what stands after it
abbrev pub IsRunAt : TableVersion → RowFormat → List ℕ → Run × List ℕ → Type 0
IsRunAt version format bytes (r, after) = IsSpelled version format r × (bytes ≡ run_line version format r ++ after)

-- the line of a run that may come next, and what stands after it
abbrev pub IsNextRunAt : RowRules → Option Run → List ℕ → Run × List ℕ → Type 0
IsNextRunAt rules last bytes (r, after) = (line : List ℕ) × IsNextRow rules last r line × (bytes ≡ line ++ after)

-- Numbers that fit in 32 bits.
pub record AreSmall (rules : RowRules) : Type 0 where
  pub cells : rules.cells < 2 ^ 32
  pub vectors : rules.vectors < 2 ^ 32
  pub most_rank : rules.most_rank < 2 ^ 32

-- Numbers of a text by turns that fit in 32 bits.
pub record AreSmallTurns (rules : TurnRules) : Type 0 where
  pub rows : AreSmall rules.rows
  pub turns : rules.turns < 2 ^ 32
