use Rattle.fixed_expr.specs.Expression.{expression_of}
use Rattle.expr_lanes.specs.inside.LaneValues.{value_in}
use Rattle.expr_lanes.proofs.LaneValues.{combined_answer}
use Rattle.expr_lanes.proofs.lane_eval.+values.Goals as goal

pub eval_values_binary-returns : goal.eval_values_binary-returns
eval_values_binary-returns t c =
    let first = c.in_ok-left.ensures in
    let second = c.in_ok-right.ensures in
    combined_answer c.args.binary (expression_of c.args.a.now) (expression_of c.args.b.now) c.args.at.now (value_in c.in_ok-left.left c.eval_values.new.found) (value_in c.in_ok-right.right c.eval_values-2.new.found) first.0 first.1 second.0 second.1 c.combine_values.result c.combine_values.new.found c.combine_values.ensures
