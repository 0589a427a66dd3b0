use Rattle.game_core.proofs.Keep as laws
use Rattle.game_core.proofs.laws.one_keep_solution.Goals as goal

pub returns : goal.returns
returns c = laws.one_keep_solution
