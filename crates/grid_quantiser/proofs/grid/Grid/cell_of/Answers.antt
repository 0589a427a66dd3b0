use Rattle.std.proofs.Common.{◌≤◌, arith, refl, length, rules}
use Rattle.mixed_radix.specs.Radix.{AreDigitsOf}
use Rattle.grid_quantiser.specs.Axes.{counts_of}
use Rattle.grid_quantiser.specs.Cells.{cell_of}
use Rattle.grid_quantiser.proofs.Counts.{state_digits}
use Rattle.grid_quantiser.proofs.grid.Grid.cell_of.Goals as goal
use Rattle.grid_quantiser.proofs.grid.Grid.cell_of.Goals.{In_ok-indices}

digits_of : (c : In_ok-indices) → AreDigitsOf (counts_of c.axes.result.now) (cell_of c.axes.result.now c.args.x.now) c.in_ok-indices.indices
digits_of c =
    let long : length c.axes.result.now ≤ length c.in_ok-indices.indices = search rules in
    state_digits c.axes.result.now c.args.x.now c.in_ok-indices.indices c.axes.ensures.axes.each long (omega (arith, c.told-x, c.axes.ensures.axes.states_bound)) (c.in_ok-indices.ensures.inside.0 refl) c.in_ok-indices.ensures.each

pub encode-requires-clause-digits : goal.encode-requires-clause-digits
encode-requires-clause-digits c = rw (c.counts.ensures.same, ← c.axes.ensures.same) (digits_of (goal.at.encode-requires-clause-digits c).In_ok-indices).are

pub returns-clause-cell : goal.returns-clause-cell
returns-clause-cell c = rw (c.encode.ensures.number, c.counts.ensures.same, ← c.axes.ensures.same) (digits_of (goal.at.returns-clause-cell c).In_ok-indices).number_is
