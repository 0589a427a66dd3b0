use Rattle.std.proofs.Common.{◌≡◌, ℕ, ◌<◌, ◌≤◌, Some}
use Rattle.game_core.specs.Solution.{row_of}
use Rattle.row_runs.proofs.runs.last_of.Given as goal

abbrev pub invariant-loop-next : goal.invariant-loop-next
invariant-loop-next l = (i : ℕ) → l.fn.first ≤ i → i < l.next → row_of l.answer i ≡ Some l.fn.row
