use Rattle.abstraction_table.specs.Table.{forward_game}
use Rattle.text_abstraction.proofs.PlantTexts.{is_solvable}
use Rattle.text_abstraction.proofs.abstraction.forward_of.Goals as goal

pub returns-clause-solvable : goal.returns-clause-solvable
returns-clause-solvable g c =
    is_solvable c.args.plant.now (forward_game c.in_ok-game.game) c.in_ok-slopes.ensures.fits c.in_ok-game.ensures.game c.in_ok-game.game.boxed.in_memory.graph
