use Rattle.command_outcomes.proofs.SomeGame.{some_game}
use Rattle.command_outcomes.proofs.laws.some_game_per_plant.Goals as goal

pub returns : goal.returns
returns c = λ p limits deny. some_game p limits (λ found. deny found.0 found.1)
