-- What a checker says of rows: that they are the solution of a game, or which cell is the first that isn't right.
use Rattle.std.specs.Prelude.{◌≡◌, ℕ, ◌↔◌, List, Option, Some, None}
use Rattle.game_core.specs.declared.game.Row.{Row}
use Rattle.game_core.specs.Game.{Game}
use Rattle.game_core.specs.Judging.{IsFirstFailure}
use Rattle.game_core.specs.Keep.{IsKeepRow}
use Rattle.game_core.specs.Right.{IsRight}
use Rattle.game_core.specs.Solution.{row_of}
use Rattle.plant_record.specs.declared.aims.GoalKind.{GoalKind}
use Rattle.plant_record.specs.declared.aims.GoalKind.TheVariants.{Reach, Keep}
use Rattle.plant_game.specs.PlantSolution.{Solves}
use Rattle.table_check.specs.declared.verdict.Verdict.{Verdict}
use Rattle.table_check.specs.declared.verdict.Verdict.TheVariants.{Valid, Invalid}

-- Valid exactly for the solution, invalid at exactly the first of the cells that isn't right.
pub record IsVerdict (IsSolution : Type 0) (IsRightCell : ℕ → Type 0) (cells : ℕ) (verdict : Verdict) : Type 0 where
  pub valid : (verdict ≡ Valid) ↔ IsSolution
  pub invalid : (c : ℕ) → (verdict ≡ Invalid c) ↔ IsFirstFailure IsRightCell 0 cells (Some c)

-- the verdict by the first cell that isn't right, where there is one
abbrev pub verdict_by : Option ℕ → Verdict
verdict_by None = Valid
verdict_by (Some c) = Invalid c

-- a cell's row is right for a goal: to reach a target, beside the rows of its successors; to be kept, as the cell is kept or not
abbrev pub IsRightFor : GoalKind → Game → List (Option Row) → ℕ → Type 0
IsRightFor Reach g rows c = IsRight g rows c
IsRightFor Keep g rows c = IsKeepRow g c (row_of rows c)

-- the verdict on the rows of a game for a goal
abbrev pub IsVerdictFor : GoalKind → Game → List (Option Row) → Verdict → Type 0
IsVerdictFor goal g rows verdict = IsVerdict (Solves goal g rows) (IsRightFor goal g rows) g.cells verdict
