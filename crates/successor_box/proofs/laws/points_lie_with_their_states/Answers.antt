use Rattle.successor_box.proofs.Padding.{point_lies}
use Rattle.successor_box.proofs.laws.points_lie_with_their_states.Goals as goal

pub returns : goal.returns
returns c = point_lies
