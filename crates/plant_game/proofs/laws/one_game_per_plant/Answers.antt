use Rattle.plant_game.proofs.OneGame.{one_game}
use Rattle.plant_game.proofs.laws.one_game_per_plant.Goals as goal

pub returns : goal.returns
returns c = one_game
