use Rattle.cell_counters.proofs.Consequences as law
use Rattle.cell_counters.proofs.laws.one_is_first.Goals as goal

pub returns : goal.returns
returns c = law.one_is_first
