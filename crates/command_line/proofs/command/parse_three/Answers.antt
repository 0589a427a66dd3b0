use Rattle.std.proofs.Common.{◌≡◌, true}
use Rattle.command_line.proofs.Words.{where_none, is_demo_command, no_demo_command}
use Rattle.command_line.proofs.command.parse_three.Goals as goal

pub returns-then-is_named-clause-found : goal.returns-then-is_named-clause-found
returns-then-is_named-clause-found c =
    let number = c.in_ok-number.ensures.found in
    let workers = c.in_ok-workers.ensures.found in
    is_demo_command c.args.name.now c.args.number.now c.args.workers.now c.in_ok-number.field-0 c.in_ok-workers.workers (c.is_named.ensures.0 c.if-is_named.true) (number.0, number.1) number.2 workers.0 workers.1

pub returns-else-is_named-clause-none : goal.returns-else-is_named-clause-none
returns-else-is_named-clause-none c = no_demo_command c.args.name.now c.args.number.now c.args.workers.now (λ a n bounds d w few e. let yes : c.is_named.result ≡ true = c.is_named.ensures.1 a in cc)

pub returns-in_err-number-clause-none : goal.returns-in_err-number-clause-none
returns-in_err-number-clause-none c = where_none c.from_residual.result _ (no_demo_command c.args.name.now c.args.number.now c.args.workers.now (λ a n bounds d w few e. c.in_err-number.ensures.none n bounds.0 bounds.1 d))

pub returns-in_err-workers-clause-none : goal.returns-in_err-workers-clause-none
returns-in_err-workers-clause-none c = where_none c.from_residual-in_err-workers.result _ (no_demo_command c.args.name.now c.args.number.now c.args.workers.now (λ a n bounds d w few e. c.in_err-workers.ensures.none w few e))
