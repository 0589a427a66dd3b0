use Rattle.text_control.proofs.Told.{last_at}
use Rattle.text_control.proofs.word_positions.search.Goals as goal

pub returns : goal.returns
returns c = last_at c.args.words.now c.args.cell c.requires.rising c.loop-size.position c.loop-size.size c.loop-size.invariant c.loop-size-test.false
