use Rattle.std.proofs.Common.{◌≤◌, map, length, arith}
use Rattle.std.proofs.lemmas.List.{length-map}
use Rattle.command_line.proofs.Spellings.{now}
use Rattle.command_line.proofs.Words.{where_none, no_sim_command}
use Rattle.command_line.proofs.command.parse_more.Goals as goal

pub returns-in_err-start-clause-none : goal.returns-in_err-start-clause-none
returns-in_err-start-clause-none c =
    let numbers = c.args.numbers.now in
    let some : 1 ≤ length (map now numbers) = omega (arith, c.requires.some, length-map numbers now) in
    where_none c.from_residual-in_err-start.result _
    (no_sim_command c.args.name.now c.args.samples.now c.args.seed.now (map now numbers) some
    (λ m s start name samples few seed below spelled. c.in_err-start.ensures.none start spelled))
