use Rattle.driven_loops.proofs.Following as laws
use Rattle.driven_loops.proofs.followed.loops_are_followed.Goals as goal

pub returns : goal.returns
returns c = laws.loops_are_followed
