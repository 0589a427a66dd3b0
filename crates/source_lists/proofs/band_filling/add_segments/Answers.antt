use Rattle.std.proofs.Common.{arith, sym, subst}
use Rattle.source_lists.proofs.ListedShapes.{one_cut_more, cuts_split}
use Rattle.source_lists.proofs.Segments.{no_segment}
use Rattle.source_lists.proofs.band_filling.add_segments.Goals as goal

pub loop-segment-init : goal.loop-segment-init
loop-segment-init g c = g.met.I.Intake.lawful.none c.args.pair c.args.intake.now

pub add-requires-clause-within : goal.add-requires-clause-within
add-requires-clause-within g c =
    omega (arith, c.clip-slot.ensures.within, c.requires.one_each, g.met.I.Intake.lawful.slots_stay c.args.pair c.args.intake.now c.loop-segment.intake _ c.loop-segment.invariant)

pub add-requires-clause-room : goal.add-requires-clause-room
add-requires-clause-room g c =
    let split = cuts_split c.args.band.from c.args.band.len c.args.first c.args.segments.now c.loop-segment.segment-index no_segment c.loop-segment-test.true c.clip-slot.result.0 c.clip-slot.result.1 c.clip-slot.ensures.slots in
    g.met.I.Intake.lawful.room_left c.args.pair c.args.intake.now c.loop-segment.intake _ _ _ c.loop-segment.invariant (subst (g.I.Intake.HasRoomFor c.args.intake.now) split c.requires.room)

pub loop-segment-preserved : goal.loop-segment-preserved
loop-segment-preserved g c =
    let before = c.args.intake.now in
    let after = c.add.new.self in
    let more = one_cut_more c.args.band.from c.args.band.len c.args.first c.args.segments.now c.loop-segment.segment-index no_segment c.loop-segment-test.true c.clip-slot.result.0 c.clip-slot.result.1 c.clip-slot.ensures.slots in
    subst (g.I.Intake.IsAdded c.args.pair before after) (sym more) (g.met.I.Intake.lawful.more c.args.pair before c.loop-segment.intake after _ _ c.loop-segment.invariant c.add.ensures)
