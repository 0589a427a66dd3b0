use Rattle.row_runs.proofs.Uniqueness.{differ}
use Rattle.row_runs.proofs.laws.different_rows_have_different_runs.Goals as goal

pub returns : goal.returns
returns c = differ
