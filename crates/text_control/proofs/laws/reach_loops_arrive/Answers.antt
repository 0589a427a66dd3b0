use Rattle.text_control.proofs.TableLoops as laws
use Rattle.text_control.proofs.laws.reach_loops_arrive.Goals as goal

pub returns : goal.returns
returns c = laws.reach_loops_arrive
