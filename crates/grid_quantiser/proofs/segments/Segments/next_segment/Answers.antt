use Rattle.std.proofs.Common.{◌<◌, arith, refl, length}
use Rattle.grid_quantiser.specs.CellBoxes.{cells_between}
use Rattle.grid_quantiser.proofs.BoxCells.{between_limit}
use Rattle.grid_quantiser.proofs.BoxNth.{corners}
use Rattle.grid_quantiser.proofs.SegmentsLeft.{segment_fits, next_whole, next_cells}
use Rattle.grid_quantiser.proofs.segments.Segments.next_segment.Goals as goal

pub overflow_add-self : goal.overflow_add-self
overflow_add-self c =
    let r = c.self.inside in
    let kept = c.self.invariant in
    let corner = corners r.grid r.cells.first r.cells.last kept.grid kept.limit kept.ordered in
    let more : r.given < length (cells_between r.grid r.cells.first r.cells.last) = omega (arith, kept.within, kept.count_is, c.if-self.false) in
    let whole = rw kept.per_segment_is at kept.whole in
    omega (arith, c.from.ensures, kept.per_segment_is, segment_fits r.grid r.cells.first r.cells.last corner r.given whole more, between_limit r.grid r.cells.first r.cells.last kept.ordered, kept.limit)

pub invariant_of-self : goal.invariant_of-self
invariant_of-self c =
    let r = c.self.inside in
    let kept = c.self.invariant in
    let corner = corners r.grid r.cells.first r.cells.last kept.grid kept.limit kept.ordered in
    let more : r.given < length (cells_between r.grid r.cells.first r.cells.last) = omega (arith, kept.within, kept.count_is, c.if-self.false) in
    let whole = rw kept.per_segment_is at kept.whole in
    rw (c.from.ensures, kept.per_segment_is) (record {
      grid = kept.grid;
      limit = kept.limit;
      ordered = kept.ordered;
      count_is = kept.count_is;
      per_segment_is = refl;
      within = omega (arith, kept.count_is, segment_fits r.grid r.cells.first r.cells.last corner r.given whole more);
      whole = next_whole r.grid r.cells.first r.cells.last corner r.given whole more;
    })

pub returns-clause-segment : goal.returns-clause-segment
returns-clause-segment c =
    let r = c.self.inside in
    let kept = c.self.invariant in
    let corner = corners r.grid r.cells.first r.cells.last kept.grid kept.limit kept.ordered in
    let more : r.given < length (cells_between r.grid r.cells.first r.cells.last) = omega (arith, kept.within, kept.count_is, c.if-self.false) in
    let whole = rw kept.per_segment_is at kept.whole in
    rw (← c.self.view_is, c.from.ensures, c.nth_of-first.ensures.nth, kept.per_segment_is) (next_cells r.grid r.cells.first r.cells.last corner r.given whole more)
