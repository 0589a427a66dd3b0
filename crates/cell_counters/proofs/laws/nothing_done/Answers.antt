use Rattle.cell_counters.proofs.Consequences as law
use Rattle.cell_counters.proofs.laws.nothing_done.Goals as goal

pub returns : goal.returns
returns c = law.nothing_done
