use Rattle.temporal_texts.proofs.Trajectories as laws
use Rattle.temporal_texts.proofs.laws.stay_trajectories_settle.Goals as goal

pub returns : goal.returns
returns c = laws.stay_trajectories_settle
