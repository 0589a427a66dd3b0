use Rattle.row_runs.proofs.Encoding.{runs_encode}
use Rattle.row_runs.proofs.laws.runs_encode_the_rows.Goals as goal

pub returns : goal.returns
returns c = runs_encode
