use Rattle.std.proofs.Common.{arith}
use Rattle.demo_plants.proofs.GreatestRank.{greatest_same, greatest_more}
use Rattle.demo_plants.proofs.summary.greatest_rank.Goals as goal

pub loop-cell-preserved : goal.loop-cell-preserved
loop-cell-preserved c = grind (arith, greatest_same, greatest_more)
