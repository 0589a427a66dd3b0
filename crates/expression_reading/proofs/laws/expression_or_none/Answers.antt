use Rattle.expression_reading.proofs.lemmas.ExpressionLaws as laws
use Rattle.expression_reading.proofs.laws.expression_or_none.Goals as goal

pub returns : goal.returns
returns c = laws.expression_or_none
