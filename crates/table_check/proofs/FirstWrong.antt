-- The verdict by the first cell that isn't right.
use Rattle.std.proofs.Common.{◌≡◌, ℕ, ◌<◌, List, Option, Some, None, length, arith}
use Rattle.game_core.specs.declared.game.Row.{Row}
use Rattle.game_core.specs.Game.{Game, IsGame}
use Rattle.game_core.specs.Right.{IsRight}
use Rattle.game_core.specs.Judging.{IsFirstFailure}
use Rattle.game_core.specs.Solution.{IsReachSolution}
use Rattle.game_core.proofs.Right.{right_rows_are_the_solution, solutions_are_right}
use Rattle.plant_record.specs.declared.aims.GoalKind.TheVariants.{Reach}
use Rattle.table_check.specs.Verdicts.{IsVerdictFor, verdict_by}
use Rattle.table_check.proofs.Verdicts.{valid_verdict, invalid_verdict}

pub first_wrong_verdict : (g : Game) (rows : List (Option Row)) (first : Option ℕ) → IsGame g → length rows ≡ g.cells → IsFirstFailure (IsRight g rows) 0 g.cells first → IsVerdictFor Reach g rows (verdict_by first)
first_wrong_verdict g rows None game one_each none =
    let each = λ (b : ℕ) (lt : b < g.cells). none b (omega arith) lt in
    valid_verdict (IsReachSolution g rows) (IsRight g rows) g.cells (right_rows_are_the_solution g rows game (record { one_each = one_each; each = each })) each
first_wrong_verdict g rows (Some c) game one_each found =
    invalid_verdict (IsReachSolution g rows) (IsRight g rows) g.cells c (λ solution. (solutions_are_right g rows game solution).each) found
