use Rattle.std.proofs.Common.{◌≡◌, ℕ, ◌+◌, ◌-◌, ◌<◌, ◌≤◌, List, ◌++◌, All, length, take, drop, replicate, length-take, length-drop, sym, subst, ap, ◌∙◌, append-nil, arith, rules}
use Rattle.std.specs.List.{Contains, range_with_len}
use Rattle.grid_quantiser.specs.Segments.{BeginsWithSegment}
use Rattle.game_core.specs.declared.game.Mark.{Mark}
use Rattle.plant_game.specs.Marks.{AreMarked}
use Rattle.plant_game.proofs.Marking.{segment_below, segment_shorter, segment_done, segment_filled, cells_marked}
use Rattle.plant_game.proofs.marks.mark_cells.Goals as goal

-- the segment lies within the marks
segment_within : (done all cells later : List ℕ) (first len : ℕ) (before marks : List Mark) (mark : Mark) → all ≡ done ++ cells → AreMarked mark (Contains done) before marks → All (λ c. c < length before) all →
    BeginsWithSegment cells later first len → first + len ≤ length marks
segment_within done all cells later first len before marks mark parts marked within segment =
    omega (arith, marked.long, segment_below (length before) done cells later first len (subst (λ (xs : List ℕ). All (λ c. c < length before) xs) parts within) segment)

pub slice_bounds-fill-end : goal.slice_bounds-fill-end
slice_bounds-fill-end c =
    let so_far = c.loop-first.invariant in
    let below : c.in-Some.first + c.in-Some.len ≤ length c.loop-first.marks = segment_within so_far.0 c.args.cells c.loop-first.cells c.next_segment.new.self c.in-Some.first c.in-Some.len c.args.marks.now c.loop-first.marks c.args.mark so_far.1 so_far.2 c.requires c.in-Some.ensures.segment in
    search rules

pub loop-first-smaller : goal.loop-first-smaller
loop-first-smaller c = segment_shorter c.loop-first.cells c.next_segment.new.self c.in-Some.first c.in-Some.len c.in-Some.ensures.segment

pub loop-first-preserved : goal.loop-first-preserved
loop-first-preserved c =
    let so_far = c.loop-first.invariant in
    let before = c.args.marks.now in
    let marks = c.loop-first.marks in
    let mark = c.args.mark in
    let first = c.in-Some.first in
    let len = c.in-Some.len in
    let segment = range_with_len first len in
    let below = segment_within so_far.0 c.args.cells c.loop-first.cells c.next_segment.new.self first len before marks mark so_far.1 so_far.2 c.requires c.in-Some.ensures.segment in
    let part : first + len - first ≡ len = omega arith in
    let long : length (take (first + len - first) (drop first marks)) ≡ first + len - first = omega (arith, below, length-take (first + len - first) (drop first marks), length-drop first marks) in
    let filled = c.fill.ensures.after (λ y same. search rules) in (
      so_far.0 ++ segment,
      segment_done c.args.cells so_far.0 c.loop-first.cells c.next_segment.new.self first len so_far.1 c.in-Some.ensures.segment,
      cells_marked mark so_far.0 segment before marks _ so_far.2 (segment_filled mark marks c.fill.new.self first len (first + len - first) below part (filled ∙ ap (λ n. replicate n mark) long)),
    )

pub returns : goal.returns
returns c =
    let so_far = c.loop-first.invariant in
    let all : c.args.cells ≡ so_far.0 = so_far.1 ∙ ap (λ (xs : List ℕ). so_far.0 ++ xs) c.in_default.ensures.none ∙ append-nil so_far.0 in
    subst (λ (xs : List ℕ). AreMarked c.args.mark (Contains xs) c.args.marks.now c.loop-first.marks) (sym all) so_far.2
