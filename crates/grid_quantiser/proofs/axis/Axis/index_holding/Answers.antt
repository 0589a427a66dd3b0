use Rattle.std.proofs.Common.{arith, FitsSigned, rules, ◌-ℤ◌, ◌≤ℤ◌, ◌<ℤ◌}
use Rattle.std.specs.Int.{w128}
use Rattle.std.proofs.lemmas.Int.{ints, to_z-of_z}
use Rattle.grid_quantiser.specs.Axes.{end_of}
use Rattle.grid_quantiser.proofs.AxisNumbers.{index_below}
use Rattle.grid_quantiser.proofs.axis.Axis.index_holding.Goals as goal

pub returns-clause-below : goal.returns-clause-below
returns-clause-below c =
    let a = c.args.self.now in
    let x = c.args.x in
    let fits_x : FitsSigned w128 x = c.ranges.x in
    let fits_lo : FitsSigned w128 a.lo = search rules in
    let fits_width : FitsSigned w128 a.width = search rules in
    let low : a.lo ≤ℤ x = grind (arith, ints) in
    let high : x <ℤ end_of a = grind (arith, ints) in
    let fits : FitsSigned w128 (x -ℤ a.lo) = omega (arith, ints, c.requires.low_bound, c.requires.high_bound, low, high) in
    simp to_z-of_z (index_below a x c.requires low high)
