use Rattle.game_core.proofs.Right as laws
use Rattle.game_core.proofs.laws.solutions_are_right.Goals as goal

pub returns : goal.returns
returns c = laws.solutions_are_right
