use Rattle.std.proofs.Common.{◌+◌, ◌*◌}
use Rattle.fixed_expr.specs.Expression.{expression_of, nodes_of}
use Rattle.interval_eval.proofs.lane_spans.+lane_spans.Given as goal

abbrev pub decreases-span_lanes : goal.decreases-span_lanes
decreases-span_lanes l = 2 * nodes_of (expression_of l.e.now)

abbrev pub decreases-span_combined : goal.decreases-span_combined
decreases-span_combined l = 2 * (nodes_of (expression_of l.a.now) + nodes_of (expression_of l.b.now)) + 1
