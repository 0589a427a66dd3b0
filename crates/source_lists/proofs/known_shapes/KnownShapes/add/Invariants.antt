use Rattle.source_lists.proofs.AddedShapes.{AddedSoFar}
use Rattle.source_lists.proofs.known_shapes.KnownShapes.add.Given as goal

abbrev pub invariant-loop-b : goal.invariant-loop-b
invariant-loop-b l = AddedSoFar l.grid l.boxes l.b-index l.fn.self l.edges l.self.fans.counts.items l.self.shapes
