use Rattle.std.proofs.Common.{sym, ◌∙◌}
use Rattle.plant_reading.proofs.lemmas.OneStatement.{none_more, no_keyword}
use Rattle.plant_reading.proofs.statements.parse_keyword.Goals as goal

pub loop-keyword-preserved : goal.loop-keyword-preserved
loop-keyword-preserved c = none_more c.args.word.now c.text_of.result.now c.loop-keyword.keyword-index c.loop-keyword.invariant c.text_of.ensures (sym c.eq.ensures ∙ c.if-eq.false)

pub returns : goal.returns
returns c = no_keyword c.args.word.now c.loop-keyword.keyword-index c.loop-keyword-test.false c.loop-keyword.invariant
