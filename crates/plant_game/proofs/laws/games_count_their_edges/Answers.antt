use Rattle.plant_game.proofs.EdgeCounts as counts
use Rattle.plant_game.proofs.laws.games_count_their_edges.Goals as goal

pub returns : goal.returns
returns c = counts.games_count_their_edges
