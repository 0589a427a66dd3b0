use Rattle.std.proofs.Common.{◌+◌, ◌∙◌, arith}
use Rattle.source_lists.specs.inside.CellRanges.{range_start}
use Rattle.source_lists.specs.inside.Tallies.{slots_of}
use Rattle.source_lists.proofs.SourceSteps.{slots_kept, added_none, none_here}
use Rattle.source_lists.proofs.band_filling.add_pairs.Goals as goal

pub loop-k-preserved-then-is_skipped : goal.loop-k-preserved-then-is_skipped
loop-k-preserved-then-is_skipped g c =
    let boxes = c.args.boxes.now in
    let from = c.args.band.from in
    let len = c.args.band.len in
    let k = c.loop-k.k in
    let none = none_here c.args.grid.now boxes c.args.ranges.now c.requires.grid c.requires.ordered c.requires.ranges from len k (c.is_skipped.ensures.known c.if-is_skipped.true) (c.is_skipped.ensures.outside c.if-is_skipped.true) in
    added_none g.met.I.Intake.lawful (slots_of c.args.grid.now boxes from len) c.args.intake.now c.loop-k.intake (range_start boxes k) (range_start boxes (k + 1)) (omega arith) none c.loop-k.invariant

pub add_box-requires-clause-one_each : goal.add_box-requires-clause-one_each
add_box-requires-clause-one_each g c = slots_kept g.met.I.Intake.lawful _ c.args.intake.now c.loop-pair.pair c.loop-pair.intake c.loop-pair.invariant ∙ c.requires.one_each
