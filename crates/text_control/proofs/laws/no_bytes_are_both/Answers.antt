use Rattle.text_control.proofs.TextRefusals as laws
use Rattle.text_control.proofs.laws.no_bytes_are_both.Goals as goal

pub returns : goal.returns
returns c = laws.no_bytes_are_both
