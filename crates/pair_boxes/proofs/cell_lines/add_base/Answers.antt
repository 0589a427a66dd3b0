use Rattle.std.proofs.Common.{◌<◌, None, length, subst, arith}
use Rattle.pair_boxes.proofs.BoxSums.{Fits28}
use Rattle.pair_boxes.proofs.ChangedElements.{none_changed, next_was, next_changed}
use Rattle.pair_boxes.proofs.cell_lines.add_base.Goals as goal

pub loop-i-init : goal.loop-i-init
loop-i-init c = none_changed None c.args.boxes.now _ _

pub plus-requires-clause-other : goal.plus-requires-clause-other
plus-requires-clause-other c =
    let short : c.loop-i.i < length c.loop-i.boxes = omega arith in
    let was = next_was None c.args.boxes.now (λ u v same. same) c.loop-i.i c.loop-i.boxes c.loop-i.invariant short c.index-boxes-i.result c.index-boxes-i.is in
    subst Fits28 was (c.requires.boxes c.loop-i.i None (omega (arith, short, c.loop-i.invariant.long)))

pub loop-i-preserved : goal.loop-i-preserved
loop-i-preserved c =
    next_changed None c.args.boxes.now (λ u v same. same) c.loop-i.i c.loop-i.boxes c.loop-i.invariant (omega arith) c.index-boxes-i.result c.plus.result c.index-boxes-i.is c.plus.ensures
