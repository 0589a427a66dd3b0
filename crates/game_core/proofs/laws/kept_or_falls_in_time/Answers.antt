use Rattle.game_core.proofs.InTime as laws
use Rattle.game_core.proofs.laws.kept_or_falls_in_time.Goals as goal

pub returns : goal.returns
returns c = laws.kept_or_falls_in_time
