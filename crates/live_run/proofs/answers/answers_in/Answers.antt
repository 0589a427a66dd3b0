use Rattle.std.proofs.Common.{subst, Option}
use Rattle.std.specs.Prelude.{IfSome}
use Rattle.live_script.specs.declared.command.ScriptCommand.{ScriptCommand}
use Rattle.live_script.specs.ScriptReading.{IsTaken}
use Rattle.live_run.proofs.Commands.{executed}
use Rattle.live_run.proofs.answers.answers_in.Goals as goal

pub loop-text-preserved : goal.loop-text-preserved
loop-text-preserved g c =
    let before = c.loop-text.unread in
    let after = c.next_command.new.self in
    let taken : IsTaken before c.in-Some.command after = subst (λ (next : Option ScriptCommand). IfSome next (λ command. IsTaken before command after)) c.in-Some.is c.in_ok-command.ensures.taken in
    executed c.args.script.now before after c.loop-text.session c.execute.new.session c.loop-text.text.items c.execute.new.text.items c.in-Some.command c.loop-text.invariant taken c.in_ok-execute.ensures
