use Rattle.controller_table.proofs.SolutionsFit.{keep_fits}
use Rattle.controller_table.proofs.laws.keep_solutions_fit.Goals as goal

pub returns : goal.returns
returns c = keep_fits
