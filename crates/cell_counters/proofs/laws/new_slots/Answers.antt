use Rattle.cell_counters.proofs.Consequences as law
use Rattle.cell_counters.proofs.laws.new_slots.Goals as goal

pub returns : goal.returns
returns c = law.new_slots
