use Rattle.std.proofs.Common.{rules}
use Rattle.fixed_expr.specs.Expression.{expression_of}
use Rattle.line_words.proofs.lemmas.RefusalsPassOn.{refused_whole}
use Rattle.expression_reading.specs.KindTrees.{AreKindsOf}
use Rattle.expression_reading.proofs.lemmas.ExpressionsRead.{sum_is_whole, tokens_left, no_sum}
use Rattle.expression_reading.proofs.expression.parse_expression.Goals as goal

pub returns-in_err-sum-clause-refused : goal.returns-in_err-sum-clause-refused
returns-in_err-sum-clause-refused c =
    let Whole = AreKindsOf c.args.variables c.args.tokens.now in
    refused_whole Whole Whole c.in_err-sum.field-0.0 _ c.from_residual.ensures.1 (no_sum c.args.variables c.args.tokens.now c.in_err-sum.field-0.0 c.in_err-sum.ensures) (λ e h. (e, h))

pub returns-then-not-is_empty-clause-refused : goal.returns-then-not-is_empty-clause-refused
returns-then-not-is_empty-clause-refused c =
    λ same. tokens_left c.args.variables c.args.tokens.now (expression_of c.in_ok-sum.sum) c.in_ok-sum.rest.now c.in_ok-sum.ensures (search rules)

pub returns-clause-found : goal.returns-clause-found
returns-clause-found c =
    rw c.into_expr.ensures (sum_is_whole c.args.variables c.args.tokens.now (expression_of c.in_ok-sum.sum) c.in_ok-sum.rest.now c.in_ok-sum.ensures (search rules))
