use Rattle.game_core.proofs.Times as laws
use Rattle.game_core.proofs.laws.counts_agree.Goals as goal

pub returns : goal.returns
returns c = laws.counts_agree
