use Rattle.std.proofs.Common.{◌≡◌}
use Rattle.std.proofs.Common.{length, ℕ, ◌<◌}
use Rattle.game_core.specs.Solution.{row_of}
use Rattle.controller_table.proofs.table_copy.copy_answer.Given as goal

abbrev pub invariant-loop-cell : goal.invariant-loop-cell
invariant-loop-cell l = record {
  size : length l.copy ≡ length l.answer;
  same : (i : ℕ) → i < l.cell → row_of l.copy i ≡ row_of l.answer i;
}
