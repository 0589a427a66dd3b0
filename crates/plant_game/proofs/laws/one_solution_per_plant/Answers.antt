use Rattle.plant_game.proofs.OneSolution.{one_plant_solution}
use Rattle.plant_game.proofs.laws.one_solution_per_plant.Goals as goal

pub returns : goal.returns
returns c = one_plant_solution
