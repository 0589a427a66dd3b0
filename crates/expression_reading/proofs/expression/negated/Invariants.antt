use Rattle.std.proofs.Common.{◌≡◌}
use Rattle.fixed_expr.specs.Expression.{expression_of}
use Rattle.expression_reading.specs.inside.ExpressionReading.{negated}
use Rattle.expression_reading.proofs.expression.negated.Given as goal

abbrev pub invariant-loop-signs : goal.invariant-loop-signs
invariant-loop-signs l = negated l.signs (expression_of l.factor) ≡ negated l.fn.signs (expression_of l.fn.factor)

abbrev pub decreases-loop-signs : goal.decreases-loop-signs
decreases-loop-signs l = l.signs
