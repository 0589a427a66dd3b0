use Rattle.live_script.proofs.SomeEnd as laws
use Rattle.live_script.proofs.laws.no_script_is_neither.Goals as goal

pub returns : goal.returns
returns c = laws.no_script_is_neither
