use Rattle.line_words.proofs.lemmas.NumberWords.{text_of_number}
use Rattle.line_words.proofs.numbers.parsed.Goals as goal

pub returns-in-Err : goal.returns-in-Err
returns-in-Err c = λ z lt e. absurd (c.in-Err.ensures.cases.0 (text_of_number c.args.word.now z lt e))
