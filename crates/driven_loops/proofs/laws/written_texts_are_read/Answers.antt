use Rattle.driven_loops.proofs.Reading as laws
use Rattle.driven_loops.proofs.laws.written_texts_are_read.Goals as goal

pub returns : goal.returns
returns c = laws.written_texts_are_read
