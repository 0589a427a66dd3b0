use Rattle.text_control.proofs.Told.{ToldBelow}
use Rattle.text_control.proofs.stretches.words_of.Given as goal

abbrev pub invariant-loop-cell : goal.invariant-loop-cell
invariant-loop-cell l = ToldBelow l.answer l.words.items l.cell
