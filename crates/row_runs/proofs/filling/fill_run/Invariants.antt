use Rattle.std.proofs.Common.{◌≡◌, ◌⊎◌, ℕ, ◌<◌, ◌≤◌, length, Some}
use Rattle.game_core.specs.Solution.{row_of}
use Rattle.row_runs.proofs.filling.fill_run.Given as goal

abbrev pub invariant-loop-cell : goal.invariant-loop-cell
invariant-loop-cell l = record {
  within : (c : ℕ) → l.fn.run.first ≤ c → c < l.cell → row_of l.answer c ≡ Some l.fn.run.row;
  elsewhere : (c : ℕ) → (c < l.fn.run.first) ⊎ (l.cell ≤ c) → row_of l.answer c ≡ row_of l.fn.answer c;
  length_is : length l.answer ≡ length l.fn.answer;
}
