use Rattle.std.proofs.Common.{arith, sym, subst}
use Rattle.source_lists.proofs.Segments.{no_segment, one_segment_more, segments_split}
use Rattle.source_lists.proofs.band_filling.add_alike.Goals as goal

pub loop-segment-init : goal.loop-segment-init
loop-segment-init g c = g.met.I.Intake.lawful.none c.args.pair c.args.intake.now

pub add_segment-requires-clause-within : goal.add_segment-requires-clause-within
add_segment-requires-clause-within g c =
    omega (arith, c.requires.within c.loop-segment.segment-index no_segment c.loop-segment-test.true, g.met.I.Intake.lawful.slots_stay c.args.pair c.args.intake.now c.loop-segment.intake _ c.loop-segment.invariant)

pub add_segment-requires-clause-room : goal.add_segment-requires-clause-room
add_segment-requires-clause-room g c =
    let split = segments_split c.args.first c.args.segments.now c.loop-segment.segment-index no_segment c.loop-segment-test.true in
    g.met.I.Intake.lawful.room_left c.args.pair c.args.intake.now c.loop-segment.intake _ _ _ c.loop-segment.invariant (subst (g.I.Intake.HasRoomFor c.args.intake.now) split c.requires.room)

pub loop-segment-preserved : goal.loop-segment-preserved
loop-segment-preserved g c =
    let before = c.args.intake.now in
    let after = c.add_segment.new.intake in
    let more = one_segment_more c.args.first c.args.segments.now c.loop-segment.segment-index no_segment c.loop-segment-test.true in
    subst (g.I.Intake.IsAdded c.args.pair before after) (sym more) (g.met.I.Intake.lawful.more c.args.pair before c.loop-segment.intake after _ _ c.loop-segment.invariant c.add_segment.ensures)
