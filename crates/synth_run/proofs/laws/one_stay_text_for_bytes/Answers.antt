use Rattle.synth_run.proofs.OneText.{one_stay_text}
use Rattle.synth_run.proofs.laws.one_stay_text_for_bytes.Goals as goal

pub returns : goal.returns
returns c = one_stay_text
