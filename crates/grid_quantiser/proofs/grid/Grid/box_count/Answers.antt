use Rattle.std.proofs.Common.{◌-◌, ◌<◌, arith, ap, sym, ◌∙◌}
use Rattle.mixed_radix.specs.Radix.{size}
use Rattle.mixed_radix.specs.Boxes.{box_counts}
use Rattle.grid_quantiser.specs.Axes.{counts_of}
use Rattle.grid_quantiser.proofs.BoxCells.{between_some, between_limit}
use Rattle.grid_quantiser.proofs.BoxNth.{corners, length-between}
use Rattle.grid_quantiser.proofs.grid.Grid.box_count.Goals as goal

pub overflow_sub-b : goal.overflow_sub-b
overflow_sub-b c = (corners c.args.self.now c.args.b.first c.args.b.last c.counts.ensures.axes c.counts.ensures.cells c.requires).order

pub box_size-requires-clause-below : goal.box_size-requires-clause-below
box_size-requires-clause-below c =
    let corner = corners c.args.self.now c.args.b.first c.args.b.last c.counts.ensures.axes c.counts.ensures.cells c.requires in
    let below : c.args.b.last - c.args.b.first < size (counts_of c.args.self.now) = omega (arith, corner.high) in
    rw c.counts.ensures.same below

pub returns-clause-count : goal.returns-clause-count
returns-clause-count c =
    let axes = c.args.self.now in
    let f = c.args.b.first in
    let l = c.args.b.last in
    c.from.ensures ∙ c.box_size.ensures ∙ ap (λ counts. size (box_counts counts (l - f))) c.counts.ensures.same ∙ sym (length-between axes f l c.counts.ensures.axes.each c.requires)

pub returns-clause-some : goal.returns-clause-some
returns-clause-some c = omega (arith, returns-clause-count c, between_some c.args.self.now c.args.b.first c.args.b.last c.requires)

pub returns-clause-limit : goal.returns-clause-limit
returns-clause-limit c = omega (arith, returns-clause-count c, between_limit c.args.self.now c.args.b.first c.args.b.last c.requires)
