use Rattle.game_core.proofs.RankBound.{rank_below}
use Rattle.controller_table.proofs.SolutionsFit.{reach_fits}
use Rattle.controller_table.proofs.laws.reach_solutions_fit.Goals as goal

pub returns : goal.returns
returns c = reach_fits rank_below
