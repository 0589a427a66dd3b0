use Rattle.cell_counters.proofs.Consequences as law
use Rattle.cell_counters.proofs.laws.counts_down.Goals as goal

pub returns : goal.returns
returns c = law.counts_down
