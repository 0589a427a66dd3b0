use Rattle.std.proofs.Common.{arith}
use Rattle.line_words.specs.Words.{is_blank}
use Rattle.line_words.proofs.lemmas.Positions.{position_or_length}
use Rattle.line_words.proofs.blanks.word_end.Goals as goal

pub returns-clause-end : goal.returns-clause-end
returns-clause-end c = grind (arith, position_or_length is_blank c.args.bytes.now)
