use Rattle.synth_run.proofs.Giving.{gives_by_command}
use Rattle.synth_run.proofs.top.outcome_of.Goals as goal

pub returns-in-Some : goal.returns-in-Some
returns-in-Some g c = gives_by_command _ c.in-Some.command c.carry_out.result.0 _ _ c.carry_out.result.1 c.in-Some.ensures.found c.carry_out.ensures
