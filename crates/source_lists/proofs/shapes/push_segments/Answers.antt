use Rattle.std.proofs.Common.{List, sym, subst}
use Rattle.source_lists.specs.declared.shapes.Segment.{Segment}
use Rattle.source_lists.proofs.Segments.{ListsSoFar, listed_none, listed_more, listed_all}
use Rattle.source_lists.proofs.shapes.push_segments.Goals as goal
use Rattle.plant_game.proofs.Marking.{segment_shorter}

pub loop-start-init : goal.loop-start-init
loop-start-init c = listed_none c.args.segments.now.items c.args.cells

pub loop-start-preserved : goal.loop-start-preserved
loop-start-preserved c =
    let left = c.loop-start.cells in
    let later = c.next_segment.new.self in
    let segment : Segment = record { start = c.in-Some.start; len = c.in-Some.len } in
    subst (λ (now : List Segment). ListsSoFar c.args.segments.now.items now c.args.cells later) (sym c.in_ok-push.ensures.items)
    (listed_more c.args.segments.now.items c.loop-start.segments.items c.args.cells left later segment c.loop-start.invariant c.in-Some.ensures.segment)

pub loop-start-smaller : goal.loop-start-smaller
loop-start-smaller c = segment_shorter c.loop-start.cells c.next_segment.new.self c.in-Some.start c.in-Some.len c.in-Some.ensures.segment

pub returns : goal.returns
returns c = listed_all c.args.segments.now.items c.loop-start.segments.items c.args.cells c.loop-start.cells c.loop-start.invariant c.in_default.ensures.none
