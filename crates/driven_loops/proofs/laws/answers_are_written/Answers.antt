use Rattle.driven_loops.proofs.Reading as laws
use Rattle.driven_loops.proofs.laws.answers_are_written.Goals as goal

pub returns : goal.returns
returns c = laws.answers_are_written
