use Rattle.plant_game.proofs.EdgeCounts as counts
use Rattle.plant_game.proofs.laws.one_edge_count.Goals as goal

pub returns : goal.returns
returns c = counts.one_edge_count
