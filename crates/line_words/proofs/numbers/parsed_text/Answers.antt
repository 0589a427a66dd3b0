use Rattle.std.proofs.Common.{◌∙◌}
use Rattle.line_words.proofs.lemmas.Spelling.{parsed_number}
use Rattle.line_words.proofs.numbers.parsed_text.Goals as goal

pub returns : goal.returns
returns c = λ z lt e. c.ok.ensures.value ∙ parsed_number c.args.text.now z c.parse.result c.parse.ensures.value.0 lt e
