use Rattle.synth_run.proofs.OneText.{one_patrol_text}
use Rattle.synth_run.proofs.laws.one_patrol_text_for_bytes.Goals as goal

pub returns : goal.returns
returns c = one_patrol_text
