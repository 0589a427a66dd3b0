use Rattle.game_core.proofs.Times as laws
use Rattle.game_core.proofs.laws.edges_from_both_ends.Goals as goal

pub returns : goal.returns
returns c = laws.edges_from_both_ends
