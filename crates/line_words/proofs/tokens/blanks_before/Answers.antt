use Rattle.std.proofs.Common.{arith}
use Rattle.line_words.specs.Words.{is_blank}
use Rattle.line_words.proofs.lemmas.Positions.{failing_or_len}
use Rattle.line_words.proofs.tokens.blanks_before.Goals as goal

pub returns-clause-blanks : goal.returns-clause-blanks
returns-clause-blanks c = grind (arith, failing_or_len is_blank c.args.bytes.now)
