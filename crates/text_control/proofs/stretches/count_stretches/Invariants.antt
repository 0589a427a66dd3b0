use Rattle.std.proofs.Common.{◌≤◌}
use Rattle.text_control.proofs.stretches.count_stretches.Given as goal

abbrev pub invariant-loop-cell : goal.invariant-loop-cell
invariant-loop-cell l = l.count ≤ l.cell
