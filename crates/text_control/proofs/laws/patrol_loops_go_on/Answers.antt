use Rattle.text_control.proofs.TemporalLoops as laws
use Rattle.text_control.proofs.laws.patrol_loops_go_on.Goals as goal

pub returns : goal.returns
returns c = laws.patrol_loops_go_on
