use Rattle.game_core.proofs.InTime as laws
use Rattle.game_core.proofs.laws.deep_keep_trees_keep.Goals as goal

pub returns : goal.returns
returns c = laws.deep_keep_trees_keep
