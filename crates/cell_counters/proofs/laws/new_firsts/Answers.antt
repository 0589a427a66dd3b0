use Rattle.cell_counters.proofs.Consequences as law
use Rattle.cell_counters.proofs.laws.new_firsts.Goals as goal

pub returns : goal.returns
returns c = law.new_firsts
