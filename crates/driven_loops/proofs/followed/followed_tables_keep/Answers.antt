use Rattle.driven_loops.proofs.Ending as laws
use Rattle.driven_loops.proofs.followed.followed_tables_keep.Goals as goal

pub returns : goal.returns
returns c = laws.followed_tables_keep
