use Rattle.command_outcomes.proofs.Outcomes.{one_outcome}
use Rattle.command_outcomes.proofs.laws.one_outcome_per_text.Goals as goal

pub returns : goal.returns
returns c = one_outcome
