use Rattle.plant_game.proofs.Refining.{games_refine}
use Rattle.plant_game.proofs.laws.games_refine_their_plants.Goals as goal

pub returns : goal.returns
returns c = games_refine
