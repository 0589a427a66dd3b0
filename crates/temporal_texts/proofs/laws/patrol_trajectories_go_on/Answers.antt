use Rattle.temporal_texts.proofs.Trajectories as laws
use Rattle.temporal_texts.proofs.laws.patrol_trajectories_go_on.Goals as goal

pub returns : goal.returns
returns c = laws.patrol_trajectories_go_on
