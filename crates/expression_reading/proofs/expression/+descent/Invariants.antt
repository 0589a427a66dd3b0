-- How deep calls may be nested, and what asks for what within one call.
use Rattle.std.proofs.Common.{◌≡◌, ◌≤◌, ◌+◌, ◌*◌}
use Rattle.fixed_expr.specs.Expression.{expression_of}
use Rattle.expression_reading.specs.inside.ExpressionReading.{after_sum, after_term, factor_of, read_in}
use Rattle.expression_reading.proofs.lemmas.ReadingSteps.{signed}
use Rattle.expression_reading.proofs.expression.+descent.Given as goal

abbrev pub decreases-after_sum : goal.decreases-after_sum
decreases-after_sum l = 10 * l.budget.calls + 8

abbrev pub decreases-after_term : goal.decreases-after_term
decreases-after_term l = 10 * l.budget.calls + 6

abbrev pub decreases-bracketed : goal.decreases-bracketed
decreases-bracketed l = 10 * l.budget.calls + 1

abbrev pub decreases-take_factor : goal.decreases-take_factor
decreases-take_factor l = 10 * l.budget.calls + 5

abbrev pub decreases-inside : goal.decreases-inside
decreases-inside l = 10 * l.budget.calls

abbrev pub decreases-take_pair : goal.decreases-take_pair
decreases-take_pair l = 10 * l.budget.calls + 2

abbrev pub decreases-take_sum : goal.decreases-take_sum
decreases-take_sum l = 10 * l.budget.calls + 9

abbrev pub decreases-take_term : goal.decreases-take_term
decreases-take_term l = 10 * l.budget.calls + 7

abbrev pub decreases-minimum : goal.decreases-minimum
decreases-minimum l = 10 * l.budget.calls + 3

abbrev pub decreases-maximum : goal.decreases-maximum
decreases-maximum l = 10 * l.budget.calls + 3

abbrev pub decreases-absolute : goal.decreases-absolute
decreases-absolute l = 10 * l.budget.calls + 3

abbrev pub decreases-looked_up : goal.decreases-looked_up
decreases-looked_up l = 10 * l.budget.calls + 3

abbrev pub decreases-unsigned_factor : goal.decreases-unsigned_factor
decreases-unsigned_factor l = 10 * l.budget.calls + 4

-- each call that the loops of a sum, of a term and of signs go on with is one of the budget at their start
abbrev pub invariant-after_sum-loop-tokens : goal.invariant-after_sum-loop-tokens
invariant-after_sum-loop-tokens l =
    (read_in l.budget after_sum (expression_of l.sum) l.tokens ≡ read_in l.fn.budget after_sum (expression_of l.fn.sum) l.fn.tokens) × (l.budget.calls ≤ l.fn.budget.calls)

abbrev pub decreases-after_sum-loop-tokens : goal.decreases-after_sum-loop-tokens
decreases-after_sum-loop-tokens l = l.budget.calls

abbrev pub invariant-after_term-loop-tokens : goal.invariant-after_term-loop-tokens
invariant-after_term-loop-tokens l =
    (read_in l.budget after_term (expression_of l.term) l.tokens ≡ read_in l.fn.budget after_term (expression_of l.fn.term) l.fn.tokens) × (l.budget.calls ≤ l.fn.budget.calls)

abbrev pub decreases-after_term-loop-tokens : goal.decreases-after_term-loop-tokens
decreases-after_term-loop-tokens l = l.budget.calls

abbrev pub invariant-take_factor-loop-tokens : goal.invariant-take_factor-loop-tokens
invariant-take_factor-loop-tokens l =
    (signed l.signs (read_in l.budget factor_of l.tokens) ≡ read_in l.fn.budget factor_of l.fn.tokens) × (l.signs + l.budget.calls ≡ l.fn.budget.calls)

abbrev pub decreases-take_factor-loop-tokens : goal.decreases-take_factor-loop-tokens
decreases-take_factor-loop-tokens l = l.budget.calls
