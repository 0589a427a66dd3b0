use Rattle.driven_loops.proofs.Written as laws
use Rattle.driven_loops.proofs.laws.written_stay_texts_settle.Goals as goal

pub returns : goal.returns
returns c = laws.written_stay_texts_settle
