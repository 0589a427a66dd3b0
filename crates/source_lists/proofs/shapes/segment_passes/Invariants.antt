use Rattle.std.proofs.Common.{ℕ, ◌<◌, ◌≤◌}
use Rattle.source_lists.proofs.shapes.segment_passes.Given as goal

-- the cells so far pass
abbrev pub invariant-loop-c : goal.invariant-loop-c
invariant-loop-c g l = (cell : ℕ) → l.first ≤ cell → cell < l.c → g.T.CellTest.passes l.test cell
