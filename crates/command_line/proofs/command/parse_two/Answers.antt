use Rattle.command_line.proofs.Words.{where_none, is_of_two, no_command}
use Rattle.command_line.proofs.command.parse_two.Goals as goal

pub returns-then-is_named-clause-found : goal.returns-then-is_named-clause-found
returns-then-is_named-clause-found c = is_of_two c.args.name.now c.args.workers.now _ c.in_ok-workers.workers (c.is_named.ensures.0 c.if-is_named.true) c.in_ok-workers.ensures.found.0 c.in_ok-workers.ensures.found.1

pub returns-in_err-workers-clause-none : goal.returns-in_err-workers-clause-none
returns-in_err-workers-clause-none c = where_none c.from_residual.result _ (no_command c.args.name.now c.args.workers.now (λ n few w. absurd (c.in_err-workers.ensures.none n few w)))
