use Rattle.text_control.proofs.TemporalLoops as laws
use Rattle.text_control.proofs.laws.stay_loops_settle.Goals as goal

pub returns : goal.returns
returns c = laws.stay_loops_settle
