use Rattle.std.proofs.Common.{length}
use Rattle.expression_reading.proofs.points.+rises.Given as goal

abbrev pub decreases-rises : goal.decreases-rises
decreases-rises l = length l.points.now
