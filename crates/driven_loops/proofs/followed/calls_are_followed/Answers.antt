use Rattle.driven_loops.proofs.Calling as laws
use Rattle.driven_loops.proofs.followed.calls_are_followed.Goals as goal

pub returns : goal.returns
returns c = laws.calls_are_followed
