use Rattle.command_outcomes.proofs.SomeOutcome.{some_outcome}
use Rattle.command_outcomes.proofs.laws.some_outcome_per_text.Goals as goal

pub returns : goal.returns
returns c = some_outcome
