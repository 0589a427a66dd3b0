use Rattle.std.proofs.Common.{ℕ, ◌-◌, ◌+◌, ◌%◌, ◌<◌, ◌≤◌, arith, ap, sym, ◌∙◌, length, get_or}
use Rattle.std.proofs.Math.Nat.{mod-le}
use Rattle.mixed_radix.proofs.Steps.{some_count}
use Rattle.mixed_radix.proofs.Boxes.{last_box_count}
use Rattle.grid_quantiser.specs.Axes.{counts_of}
use Rattle.grid_quantiser.proofs.Counts.{length-counts_of}
use Rattle.grid_quantiser.proofs.BoxNth.{corners}
use Rattle.grid_quantiser.proofs.grid.Grid.segment_length.Goals as goal

pub overflow_sub-result : goal.overflow_sub-result
overflow_sub-result c = (corners c.args.self.now c.args.b.first c.args.b.last c.counts-counts.ensures.axes c.counts-counts.ensures.cells c.requires).order

pub overflow_sub-result-2 : goal.overflow_sub-result-2
overflow_sub-result-2 c = omega (arith, c.counts-counts.ensures.axes.some_state, length-counts_of c.args.self.now, ap length c.counts-counts.ensures.same)

pub bounds-counts-counts : goal.bounds-counts-counts
bounds-counts-counts c = omega (arith, c.counts-counts.ensures.axes.some_state, length-counts_of c.args.self.now, ap length c.counts-counts.ensures.same)

pub nonzero_rem-result : goal.nonzero_rem-result
nonzero_rem-result c =
    let last : length c.counts-counts.result.now - 1 < length c.counts-counts.result.now = omega (arith, c.counts-counts.ensures.axes.some_state, length-counts_of c.args.self.now, ap length c.counts-counts.ensures.same) in
    some_count c.counts-counts.result.now (length c.counts-counts.result.now - 1) last c.counts-counts.ensures.some

pub overflow_add-result : goal.overflow_add-result
overflow_add-result c =
    let corner = corners c.args.self.now c.args.b.first c.args.b.last c.counts-counts.ensures.axes c.counts-counts.ensures.cells c.requires in
    omega (arith, mod-le (c.args.b.last - c.args.b.first) (get_or c.counts-counts.result.now (length c.counts-counts.result.now - 1) 0), corner.high, corner.limit)

pub returns-clause-length : goal.returns-clause-length
returns-clause-length c =
    let axes = c.args.self.now in
    let distance : ℕ = c.args.b.last - c.args.b.first in
    let corner = corners axes c.args.b.first c.args.b.last c.counts-counts.ensures.axes c.counts-counts.ensures.cells c.requires in
    let some : 1 ≤ length (counts_of axes) = omega (arith, c.counts-counts.ensures.axes.some_state, length-counts_of axes) in
    ap (λ counts. distance % get_or counts (length counts - 1) 0 + 1) c.counts-counts.ensures.same ∙ sym (last_box_count (counts_of axes) distance some (omega (arith, corner.high)))
