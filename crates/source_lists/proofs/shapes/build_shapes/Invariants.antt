use Rattle.source_lists.proofs.ListedShapes.{ShapesSoFar}
use Rattle.source_lists.proofs.shapes.build_shapes.Given as goal

abbrev pub invariant-loop-distance : goal.invariant-loop-distance
invariant-loop-distance l = ShapesSoFar l.grid l.fans.counts.items l.distance l.shapes
