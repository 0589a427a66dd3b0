use Rattle.std.proofs.Common.{◌≡◌, ◌+◌, ◌<◌, length, get_or, refl, sym, subst, ◌∙◌, arith}
use Rattle.std.proofs.lemmas.List.{get_or_default}
use Rattle.source_lists.specs.declared.shapes.Shapes.{Shapes}
use Rattle.source_lists.proofs.ListedShapes.{ShapesSoFar, shapes_more, shapes_past}
use Rattle.source_lists.proofs.shapes.build_shapes.Goals as goal
use Rattle.source_lists.proofs.shapes.build_shapes.Goals.{then-index-gt0+in_ok-push_shape, else-index-gt0}

pub loop-distance-preserved : goal.loop-distance-preserved
loop-distance-preserved c =
    let axes = c.args.grid.now in
    let fans = c.args.fans.now.counts.items in
    let n = c.loop-distance.distance in
    let below : n < length fans = omega (arith, c.loop-distance-test.true, c.len-distance-end.ensures, c.args.fans.now.counts.ok.0) in
    let read : c.index.result.now ≡ get_or fans n 0 = c.index.ensures ∙ get_or_default fans n c.index.result.now 0 below in
    let So : Shapes → Type 0 = ShapesSoFar axes fans (n + 1) in
    elim c.if-index-gt0.branch [
      | then-index-gt0+in_ok-push_shape w ↦
          let shape = c.requires.shapes n (omega (arith, read, w.if-index-gt0.true)) in
          let listed = w.in_ok-push_shape.ensures in
          subst So (sym w.shapes-is) (shapes_more axes fans n (get_or fans n 0) c.loop-distance.shapes w.push_shape.new.self below c.loop-distance.invariant w.push_shape.ensures.distances listed.kept listed.listed refl (omega (arith, listed.few, shape.cells)))
      | else-index-gt0 w ↦ subst So (sym w.shapes-is) (shapes_past axes fans n c.loop-distance.shapes below (omega (arith, read, w.if-index-gt0.false)) c.loop-distance.invariant)
    ]
