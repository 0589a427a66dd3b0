use Rattle.std.proofs.Common.{◌+◌, ◌*◌}
use Rattle.fixed_expr.specs.Expression.{expression_of, nodes_of}
use Rattle.expr_lanes.proofs.lane_eval.+values.Given as goal

abbrev pub decreases-eval_values : goal.decreases-eval_values
decreases-eval_values l = 2 * nodes_of (expression_of l.e.now)

abbrev pub decreases-eval_values_binary : goal.decreases-eval_values_binary
decreases-eval_values_binary l = 2 * (nodes_of (expression_of l.a.now) + nodes_of (expression_of l.b.now)) + 1
