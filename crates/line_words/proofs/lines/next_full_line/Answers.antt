use Rattle.line_words.proofs.lemmas.WhereCut.{first_line, first_cut}
use Rattle.line_words.proofs.lines.next_full_line.Goals as goal

pub returns-clause-line : goal.returns-clause-line
returns-clause-line c = first_line c.args.bytes.now c.in_ok-end.end c.in_ok-end.ensures.position

pub returns-clause-cut : goal.returns-clause-cut
returns-clause-cut c = first_cut c.args.bytes.now c.in_ok-end.end c.in_ok-end.ensures.position
