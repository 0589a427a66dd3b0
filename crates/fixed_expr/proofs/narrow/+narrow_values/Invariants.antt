use Rattle.fixed_expr.specs.Expression.{expression_of, nodes_of}
use Rattle.fixed_expr.proofs.narrow.+narrow_values.Given as goal

abbrev pub decreases-eval_narrow : goal.decreases-eval_narrow
decreases-eval_narrow l = nodes_of (expression_of l.e.now)
