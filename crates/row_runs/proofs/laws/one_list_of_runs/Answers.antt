use Rattle.row_runs.proofs.Uniqueness.{one_list}
use Rattle.row_runs.proofs.laws.one_list_of_runs.Goals as goal

pub returns : goal.returns
returns c = one_list
