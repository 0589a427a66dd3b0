use Rattle.std.proofs.Common.{length}
use Rattle.source_lists.proofs.Segments.{ListsSoFar}
use Rattle.source_lists.proofs.shapes.push_segments.Given as goal

abbrev pub invariant-loop-start : goal.invariant-loop-start
invariant-loop-start l = ListsSoFar l.fn.segments.items l.segments.items l.fn.cells l.cells

abbrev pub decreases-loop-start : goal.decreases-loop-start
decreases-loop-start l = length l.cells
