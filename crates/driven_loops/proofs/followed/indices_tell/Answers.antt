use Rattle.driven_loops.proofs.ItsBox as laws
use Rattle.driven_loops.proofs.followed.indices_tell.Goals as goal

pub returns : goal.returns
returns c = laws.indices_tell
