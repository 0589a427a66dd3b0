use Rattle.std.proofs.Common.{rules}
use Rattle.line_words.proofs.lemmas.WhereCut.{last_line}
use Rattle.line_words.proofs.lines.next_line.Goals as goal

pub returns-in-None-clause-line : goal.returns-in-None-clause-line
returns-in-None-clause-line c = rw (c.split_at.ensures.front, c.split_at.ensures.back) (last_line c.args.bytes.now (search rules) c.in-None.ensures.endless)
