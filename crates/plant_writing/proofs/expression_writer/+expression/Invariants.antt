use Rattle.std.proofs.Common.{◌+◌, ◌*◌, max}
use Rattle.fixed_expr.specs.Expression.{expression_of}
use Rattle.plant_record.specs.Equations.{depth_of}
use Rattle.plant_writing.proofs.expression_writer.+expression.Given as goal

abbrev pub decreases-push_bare : goal.decreases-push_bare
decreases-push_bare l = 4 * depth_of (expression_of l.e.now)

abbrev pub decreases-push_expression : goal.decreases-push_expression
decreases-push_expression l = 4 * depth_of (expression_of l.e.now) + 1

abbrev pub decreases-push_two : goal.decreases-push_two
decreases-push_two l = 4 * max (depth_of (expression_of l.left.1.now)) (depth_of (expression_of l.right.1.now)) + 2

abbrev pub decreases-push_call : goal.decreases-push_call
decreases-push_call l = 4 * max (depth_of (expression_of l.a.now)) (depth_of (expression_of l.b.now)) + 3

abbrev pub decreases-push_lut : goal.decreases-push_lut
decreases-push_lut l = 4 * depth_of (expression_of l.a.now) + 2
