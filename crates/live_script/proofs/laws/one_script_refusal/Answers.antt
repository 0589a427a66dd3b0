use Rattle.live_script.proofs.ScriptLaws as laws
use Rattle.live_script.proofs.laws.one_script_refusal.Goals as goal

pub returns : goal.returns
returns c = laws.one_script_refusal
