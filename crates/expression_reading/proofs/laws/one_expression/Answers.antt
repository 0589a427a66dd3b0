use Rattle.expression_reading.proofs.lemmas.ExpressionLaws as laws
use Rattle.expression_reading.proofs.laws.one_expression.Goals as goal

pub returns : goal.returns
returns c = laws.one_expression
