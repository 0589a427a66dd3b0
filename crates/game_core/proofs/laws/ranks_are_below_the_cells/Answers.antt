use Rattle.game_core.proofs.RankBound.{rank_below}
use Rattle.game_core.proofs.laws.ranks_are_below_the_cells.Goals as goal

pub returns : goal.returns
returns c = rank_below
