use Rattle.std.proofs.Common.{◌≡◌, ◌<◌, ◌/◌, ◌%◌, ◌+◌, min, length, get_or, ap, sym, subst, ◌∙◌, List, arith}
use Rattle.std.specs.Prelude.{IfOk}
use Rattle.std.specs.Fork.{slice_chunk}
use Rattle.std.specs.declared.alloc.AllocError.{AllocError}
use Rattle.std.specs.declared.result.Result.{Result}
use Rattle.std.proofs.lemmas.Grind.{div_ceil_times}
use Rattle.source_lists.specs.declared.fans.Fans.{Fans}
use Rattle.source_lists.specs.inside.FanCounts.{CountBoxes}
use Rattle.source_lists.proofs.MergedFans.{counts_more, counts_all, part_edges_fit, some_size}
use Rattle.source_lists.proofs.fans.count_fans.Goals as goal
use Rattle.source_lists.proofs.fans.count_fans.Goals.{In-Ok, After-loop-part}

-- a part that was counted has the counts of its boxes
part_counts : (g : _) (c : In-Ok g) → CountBoxes c.args.grid.now (slice_chunk c.args.boxes.now c.div_ceil-size.result c.loop-part.part-index) c.in-Ok.part.counts.items c.in-Ok.part.edges
part_counts g c =
    let counted = c.in_ok-counted.counted.items in
    let read = ap (λ (rs : List (Result Fans AllocError)). get_or rs c.loop-part.part-index c.part-item.result) c.deref-part-items.ensures.value in
    let is = sym read ∙ sym c.part-item.is ∙ c.in-Ok.is in
    let within : c.loop-part.part-index < length counted = omega (arith, c.loop-part-test.true, ap length c.deref-part-items.ensures.value) in
    let given = (c.in_ok-counted.ensures.each c.loop-part.part-index c.part-item.result within).1 in
    let call = subst (λ (r : Result Fans AllocError). IfOk r (λ (fans : Fans). CountBoxes c.args.grid.now given.argument.now fans.counts.items fans.edges)) is given.call in
    rw given.argument_is.value at call

pub merge-requires : goal.merge-requires
merge-requires g c =
    let first = c.loop-part.invariant in
    let second = part_counts g (goal.at.merge-requires g c).In-Ok in
    record { edges = part_edges_fit c.args.grid.now c.args.boxes.now c.div_ceil-size.result c.loop-part.part-index c.loop-part.fans.edges c.in-Ok.part.edges c.requires.grid c.requires.ordered c.cells.ensures.limit c.requires.limit first.edges_are second.edges_are }

pub loop-part-preserved : goal.loop-part-preserved
loop-part-preserved g c =
    let merged = c.in_ok-merge-in-Ok.ensures in
    let second = part_counts g (goal.at.loop-part-preserved g c).In-Ok in
    rw merged.edges
    (counts_more c.args.grid.now c.args.boxes.now c.div_ceil-size.result c.loop-part.part-index c.loop-part.fans.counts.items c.in-Ok.part.counts.items c.merge.new.self.counts.items c.loop-part.fans.edges c.in-Ok.part.edges merged.counts c.loop-part.invariant second)

-- all parts are put together
whole : (g : _) (c : After-loop-part g) → CountBoxes c.args.grid.now c.args.boxes.now c.loop-part.fans.counts.items c.loop-part.fans.edges
whole g c =
    let boxes = c.args.boxes.now in
    let size = c.div_ceil-size.result in
    let some : 0 < size = rw c.div_ceil-size.ensures (some_size (length boxes) c.part_count-parts.result (omega (arith, c.part_count-parts.ensures, c.if-parts-eq1.false)) (omega (arith, c.part_count-parts.ensures.some))) in
    let parts : c.loop-part.part-index ≡ length boxes / size + min 1 (length boxes % size) = omega (arith, c.loop-part-test.false, c.loop-part.auto.part-index-end, ap length c.deref-part-items.ensures.value, c.in_ok-counted.ensures.len) in
    counts_all c.args.grid.now boxes size c.loop-part.part-index c.loop-part.fans.counts.items c.loop-part.fans.edges (rw parts (div_ceil_times (length boxes) size some).0) c.loop-part.invariant

pub returns-clause-fans : goal.returns-clause-fans
returns-clause-fans g c = (whole g (goal.at.returns-clause-fans g c).After-loop-part).fans_are

pub returns-clause-edges : goal.returns-clause-edges
returns-clause-edges g c = (whole g (goal.at.returns-clause-edges g c).After-loop-part).edges_are
