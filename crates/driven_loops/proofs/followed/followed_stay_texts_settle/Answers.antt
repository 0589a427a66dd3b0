use Rattle.driven_loops.proofs.Settling as laws
use Rattle.driven_loops.proofs.followed.followed_stay_texts_settle.Goals as goal

pub returns : goal.returns
returns c = laws.followed_stay_texts_settle
