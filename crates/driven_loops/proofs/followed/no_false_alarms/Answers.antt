use Rattle.driven_loops.proofs.Alarms as laws
use Rattle.driven_loops.proofs.followed.no_false_alarms.Goals as goal

pub returns : goal.returns
returns c = laws.no_false_alarms
