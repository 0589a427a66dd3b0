use Rattle.text_control.proofs.TableLoops as laws
use Rattle.text_control.proofs.laws.keep_loops_go_on.Goals as goal

pub returns : goal.returns
returns c = laws.keep_loops_go_on
