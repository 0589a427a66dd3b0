use Rattle.demo_plants.proofs.Overflows.{no_overflow}
use Rattle.demo_plants.proofs.laws.demo_plants_have_no_overflow.Goals as goal

pub returns : goal.returns
returns c = no_overflow
