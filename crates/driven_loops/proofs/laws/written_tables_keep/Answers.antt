use Rattle.driven_loops.proofs.Written as laws
use Rattle.driven_loops.proofs.laws.written_tables_keep.Goals as goal

pub returns : goal.returns
returns c = laws.written_tables_keep
