use Rattle.line_words.specs.Words.{words_of}
use Rattle.statement_words.proofs.lemmas.BoxEnds.{AreRead}
use Rattle.statement_words.proofs.state_boxes.parse_box.Given as goal

abbrev pub invariant-loop-i : goal.invariant-loop-i
invariant-loop-i l = AreRead l.i l.low l.high (words_of l.bytes) (words_of l.rest)
