use Rattle.std.proofs.Common.{arith}
use Rattle.line_words.proofs.lemmas.WhereCut.{first_word, no_word}
use Rattle.line_words.proofs.blanks.next_word.Goals as goal

pub returns-in_err-start-clause-ended : goal.returns-in_err-start-clause-ended
returns-in_err-start-clause-ended c = rw c.from_residual.ensures (no_word c.args.bytes.now c.in_err-start.ensures.position)

pub returns-clause-word : goal.returns-clause-word
returns-clause-word c = rw (c.split_at.ensures.front, c.split_at.ensures.back, c.word_end.ensures.end) (first_word c.args.bytes.now c.in_ok-start.start c.in_ok-start.ensures.position).words

pub returns-clause-some_byte : goal.returns-clause-some_byte
returns-clause-some_byte c =
    let w = first_word c.args.bytes.now c.in_ok-start.start c.in_ok-start.ensures.position in
    omega (arith, c.split_at.ensures.front_len, c.word_end.ensures.end, w.some_byte)
