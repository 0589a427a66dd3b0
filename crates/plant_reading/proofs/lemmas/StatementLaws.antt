-- The words of a line state one thing at most, and a line that is skipped states nothing.
use Rattle.plant_reading.specs.inside.StatementLaws.{OneStatement, SkippedLinesStateNothing}
use Rattle.plant_reading.proofs.lemmas.OneStatement as lines
use Rattle.expression_reading.proofs.lemmas.ExpressionLaws.{one_expression}

pub one_statement : OneStatement
one_statement names n words s t differ named h k = lines.one_statement names n words s t one_expression differ named h k

pub skipped : SkippedLinesStateNothing
skipped = lines.states_nothing
