use Rattle.cell_counters.proofs.Consequences as law
use Rattle.cell_counters.proofs.laws.answers_once.Goals as goal

pub returns : goal.returns
returns c = law.answers_once
