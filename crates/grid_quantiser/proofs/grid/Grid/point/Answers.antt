use Rattle.std.proofs.Common.{◌<◌, ◌≤◌, arith, ap, sym, ◌∙◌, length, get_or, pos}
use Rattle.mixed_radix.specs.Radix.{digits}
use Rattle.mixed_radix.proofs.Numbers.{length-digits, the_digits}
use Rattle.grid_quantiser.specs.Axes.{no_axis, counts_of}
use Rattle.grid_quantiser.specs.Cells.{point_of}
use Rattle.grid_quantiser.specs.inside.Spots.{coordinate_of, numbers_of}
use Rattle.grid_quantiser.proofs.Counts.{length-counts_of, each_count, length-numbers_at, each_number, six_written}
use Rattle.grid_quantiser.proofs.grid.Grid.point.Goals as goal

pub number-requires-clause-within : goal.number-requires-clause-within
number-requires-clause-within c =
    let axes = c.axes-axes.result.now in
    let of = (rw (c.counts.ensures.same, ← c.axes-axes.ensures.same) at c.decode-indices.ensures.digits) (rw c.axes-axes.ensures.same c.requires) in
    omega (arith, c.from.ensures, of.are.below c.loop-i.i (omega (arith, c.loop-i-test.true, length-counts_of axes)), each_count axes c.loop-i.i)

pub returns : goal.returns
returns c =
    let axes = c.axes-axes.result.now in
    let counts = counts_of axes in
    let f = coordinate_of c.args.cell_point in
    let of = (rw (c.counts.ensures.same, ← c.axes-axes.ensures.same) at c.decode-indices.ensures.digits) (rw c.axes-axes.ensures.same c.requires) in
    let so_far = c.loop-i.invariant in
    let ds = digits counts c.args.c in
    let enough : length axes ≤ length ds = omega (arith, length-digits counts c.args.c, length-counts_of axes) in
    let long = length-numbers_at f axes ds enough in
    six_written c.loop-i.point (numbers_of c.args.cell_point axes c.args.c) (pos 0) so_far.six (omega (arith, long, c.axes-axes.ensures.axes.states_bound))
    (λ k lt.
    let within : k < length axes = omega (arith, lt, long) in
    so_far.each k (omega (arith, within, c.loop-i-test.false))
    ∙ ap (f (get_or axes k no_axis)) (the_digits counts c.decode-indices.result c.args.c k of (omega (arith, within, length-counts_of axes)))
    ∙ sym (each_number f axes ds k (pos 0) enough within))
    (λ k past. so_far.rest k (omega (arith, past, long, c.loop-i.auto.i-end)))
    ∙ ap (λ axes. point_of (numbers_of c.args.cell_point axes c.args.c)) c.axes-axes.ensures.same
