use Rattle.text_control.proofs.TextRefusals as laws
use Rattle.text_control.proofs.laws.one_text_refusal.Goals as goal

pub returns : goal.returns
returns c = laws.one_text_refusal
