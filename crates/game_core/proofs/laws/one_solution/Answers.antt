use Rattle.game_core.proofs.Promises as laws
use Rattle.game_core.proofs.laws.one_solution.Goals as goal

pub returns : goal.returns
returns c = laws.one_solution
