use Rattle.std.proofs.Common.{List, ℕ, subst}
use Rattle.std.specs.Prelude.{IfOk, IfErr}
use Rattle.run_devices.specs.Devices.{reading}
use Rattle.text_abstraction.specs.Causes.{IsStopFor}
use Rattle.synth_run.specs.inside.Making.{IsMade}
use Rattle.synth_run.specs.inside.Working.{HasItsGame, HasItsAnswer, IsStopped}
use Rattle.command_outcomes.specs.Stages.{IsStagedRefusal}
use Rattle.synth_run.proofs.Leaving.{to_be_left}
use Rattle.base.proofs.Results.{passed_on}
use Rattle.synth_run.proofs.Working.{worked_out, stopped}
use Rattle.synth_run.proofs.top.work_of.Goals as goal
use Rattle.std.proofs.lemmas.Result.{IfOk-weaker, IfErr-weaker}

pub returns-clause-answer : goal.returns-clause-answer
returns-clause-answer g c =
    let command = c.args.command in
    let source = reading g.S.Source.left g.S.Source.faults g.S.Source.is_sound c.args.source.now c.read_for.new.source in
    let read = c.in_ok-bytes.bytes.items in
    IfOk-weaker c.work_on.result (IsMade command read) (HasItsAnswer command source)
    (λ work made. worked_out command source read work.text c.in_ok-bytes.ensures.read made.can_be_written made.answer)
    (subst (λ (bytes : List ℕ). IfOk c.work_on.result (IsMade command bytes)) c.deref.ensures.value c.work_on.ensures.made)

pub returns-clause-played : goal.returns-clause-played
returns-clause-played g c =
    let command = c.args.command in
    let source = reading g.S.Source.left g.S.Source.faults g.S.Source.is_sound c.args.source.now c.read_for.new.source in
    let read = c.in_ok-bytes.bytes.items in
    IfOk-weaker c.work_on.result (IsMade command read) (HasItsGame command source)
    (λ work made. to_be_left command work.played source read c.in_ok-bytes.ensures.read made.leaves)
    (subst (λ (bytes : List ℕ). IfOk c.work_on.result (IsMade command bytes)) c.deref.ensures.value c.work_on.ensures.made)

pub returns-clause-stopped : goal.returns-clause-stopped
returns-clause-stopped g c =
    let command = c.args.command in
    let source = reading g.S.Source.left g.S.Source.faults g.S.Source.is_sound c.args.source.now c.read_for.new.source in
    let read = c.in_ok-bytes.bytes.items in
    IfErr-weaker c.work_on.result (IsStopFor (IsStagedRefusal command read)) (IsStopped command source)
    (λ stop refused. stopped command source read stop c.in_ok-bytes.ensures.read refused)
    (subst (λ (bytes : List ℕ). IfErr c.work_on.result (IsStopFor (IsStagedRefusal command bytes))) c.deref.ensures.value c.work_on.ensures.refused)

pub returns-in_err-bytes-clause-stopped : goal.returns-in_err-bytes-clause-stopped
returns-in_err-bytes-clause-stopped g c = passed_on c.from_residual.result c.in_err-bytes.field-0.0 _ c.from_residual.ensures.1 c.in_err-bytes.ensures.stopped
