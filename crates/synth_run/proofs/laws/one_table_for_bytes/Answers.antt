use Rattle.synth_run.proofs.OneText.{one_table}
use Rattle.synth_run.proofs.laws.one_table_for_bytes.Goals as goal

pub returns : goal.returns
returns c = one_table
