use Rattle.std.proofs.Common.{ℕ, ◌-◌, All, sym, subst}
use Rattle.source_lists.specs.Shapes.{EndsBy}
use Rattle.source_lists.proofs.ListedShapes.{box_segments_end, box_inside}
use Rattle.source_lists.proofs.SourceSteps.{none_reached}
use Rattle.source_lists.proofs.band_filling.add_box.Goals as goal

pub add_inside-requires-clause-within : goal.add_inside-requires-clause-within
add_inside-requires-clause-within g c =
    let band = c.args.band in
    let inside = box_inside c.args.grid.now c.args.shapes.now c.args.b c.in-Some.b c.in-Some.ensures.same c.requires.grid c.requires.ordered c.requires.segments band.from band.len (c.holds.ensures.0 c.if-holds.true) c.segments_of-segments.result.now c.segments_of-segments.ensures in
    subst (λ (n : ℕ). All (EndsBy n (c.in-Some.b.first - band.from)) c.segments_of-segments.result.now) (sym c.requires.one_each) inside.ends

pub add_inside-requires-clause-room : goal.add_inside-requires-clause-room
add_inside-requires-clause-room g c =
    let band = c.args.band in
    let inside = box_inside c.args.grid.now c.args.shapes.now c.args.b c.in-Some.b c.in-Some.ensures.same c.requires.grid c.requires.ordered c.requires.segments band.from band.len (c.holds.ensures.0 c.if-holds.true) c.segments_of-segments.result.now c.segments_of-segments.ensures in
    subst (g.I.Intake.HasRoomFor c.args.intake.now) inside.indices c.requires.room

pub returns-then-holds : goal.returns-then-holds
returns-then-holds g c =
    let band = c.args.band in
    let inside = box_inside c.args.grid.now c.args.shapes.now c.args.b c.in-Some.b c.in-Some.ensures.same c.requires.grid c.requires.ordered c.requires.segments band.from band.len (c.holds.ensures.0 c.if-holds.true) c.segments_of-segments.result.now c.segments_of-segments.ensures in
    subst (g.I.Intake.IsAdded c.args.pair c.args.intake.now c.add_inside.new.intake) (sym inside.indices) c.add_inside.ensures

pub add_segments-requires-clause-within : goal.add_segments-requires-clause-within
add_segments-requires-clause-within g c =
    box_segments_end c.args.grid.now c.args.shapes.now c.args.b c.in-Some.b c.in-Some.ensures.same c.requires.grid c.requires.limit c.requires.ordered c.requires.segments c.segments_of-segments.result.now c.segments_of-segments.ensures

pub returns-in_default : goal.returns-in_default
returns-in_default g c =
    let band = c.args.band in
    let none = none_reached c.args.grid.now band.from band.len c.args.b c.requires.grid c.requires.ordered c.in_default.ensures.none in
    subst (g.I.Intake.IsAdded c.args.pair c.args.intake.now c.args.intake.now) (sym none) (g.met.I.Intake.lawful.none c.args.pair c.args.intake.now)
