use Rattle.live_script.proofs.ScriptLaws as laws
use Rattle.live_script.proofs.laws.no_script_is_refused.Goals as goal

pub returns : goal.returns
returns c = laws.no_script_is_refused
