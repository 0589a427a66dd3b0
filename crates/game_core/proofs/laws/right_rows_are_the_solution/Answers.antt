use Rattle.game_core.proofs.Right as laws
use Rattle.game_core.proofs.laws.right_rows_are_the_solution.Goals as goal

pub returns : goal.returns
returns c = laws.right_rows_are_the_solution
