use Rattle.game_core.proofs.Promises.{leads_to_goals}
use Rattle.game_core.proofs.laws.rows_lead_to_goals.Goals as goal

pub returns : goal.returns
returns c = leads_to_goals
