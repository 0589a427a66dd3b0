use Rattle.demo_plants.proofs.Solvable.{solvable}
use Rattle.demo_plants.proofs.laws.demo_plants_are_solvable.Goals as goal

pub returns : goal.returns
returns c = solvable
