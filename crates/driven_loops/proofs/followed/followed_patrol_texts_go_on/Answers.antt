use Rattle.driven_loops.proofs.Patrolling as laws
use Rattle.driven_loops.proofs.followed.followed_patrol_texts_go_on.Goals as goal

pub returns : goal.returns
returns c = laws.followed_patrol_texts_go_on
