use Rattle.std.proofs.Common.{ap, arith, length}
use Rattle.grid_quantiser.proofs.AxisCounts.{few_indices}
use Rattle.grid_quantiser.proofs.grid.Grid.axis.Goals as goal

pub returns-clause-few : goal.returns-clause-few
returns-clause-few c = few_indices c.axes.result.now c.args.axis c.axes.ensures.axes c.axes.ensures.limit (omega (arith, c.requires, ap length c.axes.ensures.same))
