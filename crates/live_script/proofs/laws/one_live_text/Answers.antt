use Rattle.live_script.proofs.OneText as laws
use Rattle.live_script.proofs.laws.one_live_text.Goals as goal

pub returns : goal.returns
returns c = laws.one_live_text
