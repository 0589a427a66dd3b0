use Rattle.driven_loops.proofs.Written as laws
use Rattle.driven_loops.proofs.laws.written_patrol_texts_go_on.Goals as goal

pub returns : goal.returns
returns c = laws.written_patrol_texts_go_on
