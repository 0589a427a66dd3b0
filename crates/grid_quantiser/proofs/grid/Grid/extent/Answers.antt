use Rattle.std.proofs.Common.{refl}
use Rattle.std.specs.Int.{w128}
use Rattle.std.proofs.lemmas.Int.{to_z-of_z}
use Rattle.grid_quantiser.proofs.QuantiserExtents.{found}
use Rattle.grid_quantiser.proofs.grid.Grid.extent.Goals as goal

pub returns : goal.returns
returns c =
    rw (← c.axis-axis.ensures.same)
    (found _ _ _ _ _ (rw (to_z-of_z w128 c.args.low c.ranges.low) at (c.in_ok-first.ensures.inside.0 refl), rw (to_z-of_z w128 c.args.high c.ranges.high) at (c.in_ok-last.ensures.inside.0 refl))
    (rw (to_z-of_z w128 c.args.low c.ranges.low) at c.in_ok-first.ensures.index, c.in_ok-first.ensures.below)
    (rw (to_z-of_z w128 c.args.high c.ranges.high) at c.in_ok-last.ensures.index, c.in_ok-last.ensures.below))
