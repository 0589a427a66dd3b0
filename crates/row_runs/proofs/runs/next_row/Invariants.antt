use Rattle.std.proofs.Common.{◌≡◌, ℕ, ◌<◌, ◌≤◌, None}
use Rattle.game_core.specs.Solution.{row_of}
use Rattle.row_runs.proofs.runs.next_row.Given as goal

abbrev pub invariant-loop-cell : goal.invariant-loop-cell
invariant-loop-cell l = (i : ℕ) → l.fn.from ≤ i → i < l.cell → row_of l.answer i ≡ None
