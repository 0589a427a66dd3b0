use Rattle.std.proofs.Common.{ℕ, List, subst}
use Rattle.run_devices.specs.Devices.{reading}
use Rattle.live_script.specs.LiveText.{IsLiveText}
use Rattle.live_run.specs.declared.live_stop.LiveStop.TheVariants.{Unread, Unanswered}
use Rattle.live_run.specs.inside.Answering.{IsUnanswered}
use Rattle.live_run.specs.inside.LiveWorking.{IsStopped}
use Rattle.base.proofs.Results.{passed_on}
use Rattle.live_run.proofs.live_top.answers_on_source.Goals as goal

pub returns-clause-answer : goal.returns-clause-answer
returns-clause-answer g c = record {
  script = c.in_ok-script.script.items;
  read = record { up_to = c.in_ok-script.ensures.read; never_past = c.read_up_to.ensures.never_past; no_fault = c.in_ok-script.ensures.no_fault (λ e. cc) };
  answers = subst (λ (script : List ℕ). IsLiveText script c.in_ok-text.text.items) c.deref.ensures.value c.in_ok-text.ensures.answers;
}

pub returns-in_err-script-clause-stopped : goal.returns-in_err-script-clause-stopped
returns-in_err-script-clause-stopped g c =
    let source = reading g.S.Source.left g.S.Source.faults g.S.Source.is_sound c.args.source.now c.read_up_to.new.source in
    passed_on c.from_residual.result (Unread c.in_err-script.field-0.0) (λ stop. IsStopped stop source) c.from_residual.ensures.1
    (record {
      never_past = c.read_up_to.ensures.never_past;
      failed = λ e. c.in_err-script.ensures.fault (cc);
      stood = λ other. c.in_err-script.ensures.no_fault (λ e. other (cc));
      sound = λ is_sound e. c.in_err-script.ensures.sound is_sound (cc);
    })

pub returns-in_err-text-clause-stopped : goal.returns-in_err-text-clause-stopped
returns-in_err-text-clause-stopped g c =
    let source = reading g.S.Source.left g.S.Source.faults g.S.Source.is_sound c.args.source.now c.read_up_to.new.source in
    passed_on c.from_residual-in_err-text.result (Unanswered c.in_err-text.field-0.0) (λ stop. IsStopped stop source) c.from_residual-in_err-text.ensures.1
    (record {
      script = c.in_ok-script.script.items;
      read = record { up_to = c.in_ok-script.ensures.read; never_past = c.read_up_to.ensures.never_past; no_fault = c.in_ok-script.ensures.no_fault (λ e. cc) };
      why = subst (λ (script : List ℕ). IsUnanswered script c.in_err-text.field-0.0) c.deref.ensures.value c.in_err-text.ensures.refused;
    })
