use Rattle.text_control.proofs.TextRefusals as laws
use Rattle.text_control.proofs.laws.read_texts_tell.Goals as goal

pub returns : goal.returns
returns c = laws.read_texts_tell
