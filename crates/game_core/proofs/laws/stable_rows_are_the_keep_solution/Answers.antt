use Rattle.game_core.proofs.Keep as laws
use Rattle.game_core.proofs.laws.stable_rows_are_the_keep_solution.Goals as goal

pub returns : goal.returns
returns c = laws.stable_rows_are_the_keep_solution
