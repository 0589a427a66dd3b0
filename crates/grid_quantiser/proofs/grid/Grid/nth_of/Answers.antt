use Rattle.std.proofs.Common.{◌-◌, ◌<◌, arith, ap}
use Rattle.mixed_radix.specs.Radix.{size}
use Rattle.mixed_radix.specs.Boxes.{box_counts, nth}
use Rattle.grid_quantiser.specs.Axes.{counts_of}
use Rattle.grid_quantiser.proofs.BoxCells.{between_below, between_limit}
use Rattle.grid_quantiser.proofs.BoxNth.{corners, length-between, between_nth}
use Rattle.grid_quantiser.proofs.grid.Grid.nth_of.Goals as goal

pub overflow_sub-b : goal.overflow_sub-b
overflow_sub-b c = (corners c.args.self.now c.args.b.first c.args.b.last c.counts.ensures.axes c.counts.ensures.cells c.requires.ordered).order

pub overflow_cast-i : goal.overflow_cast-i
overflow_cast-i c = omega (arith, c.requires.within, c.counts.ensures.cells, between_limit c.args.self.now c.args.b.first c.args.b.last c.requires.ordered)

pub nth-requires-clause-below : goal.nth-requires-clause-below
nth-requires-clause-below c =
    let corner = corners c.args.self.now c.args.b.first c.args.b.last c.counts.ensures.axes c.counts.ensures.cells c.requires.ordered in
    let below : c.args.b.last - c.args.b.first < size (counts_of c.args.self.now) = omega (arith, corner.high) in
    rw c.counts.ensures.same below

pub nth-requires-clause-within : goal.nth-requires-clause-within
nth-requires-clause-within c =
    let axes = c.args.self.now in
    let within : c.args.i < size (box_counts (counts_of axes) (c.args.b.last - c.args.b.first)) =
    omega (arith, c.requires.within, length-between axes c.args.b.first c.args.b.last c.counts.ensures.axes.each c.requires.ordered)
    in
    rw c.counts.ensures.same within

pub returns-clause-nth : goal.returns-clause-nth
returns-clause-nth c =
    let axes = c.args.self.now in
    let f = c.args.b.first in
    let l = c.args.b.last in
    let corner = corners axes f l c.counts.ensures.axes c.counts.ensures.cells c.requires.ordered in
    omega (arith, c.nth.ensures, ap (λ counts. nth counts (box_counts counts (l - f)) c.args.i) c.counts.ensures.same, between_nth axes f l c.args.i corner.grid.each corner.low c.requires.ordered c.requires.within)

pub returns-clause-below : goal.returns-clause-below
returns-clause-below c =
    omega (arith, returns-clause-nth c, between_below c.args.self.now c.args.b.first c.args.b.last c.args.i c.counts.ensures.axes.each c.requires.ordered c.requires.within)

pub overflow_add-result : goal.overflow_add-result
overflow_add-result c = omega (arith, returns-clause-below c, c.counts.ensures.cells)
