use Rattle.grid_quantiser.proofs.OwnIndices.{centre_index}
use Rattle.grid_quantiser.proofs.laws.centres_depend_on_their_indices.Goals as goal

pub returns : goal.returns
returns c axes cell i grid below within = centre_index axes cell i below within
