use Rattle.std.proofs.Common.{ℕ, subst}
use Rattle.run_devices.specs.Devices.{TakesAtMost, reading}
use Rattle.run_devices.specs.Transfers.{ReadUpTo}
use Rattle.text_abstraction.specs.Causes.{of_read}
use Rattle.base.proofs.Results.{passed_on}
use Rattle.synth_run.proofs.Working.{demo_is_read, reads_unless_demo, is_read, is_unread}
use Rattle.synth_run.proofs.top.read_for.Goals as goal

pub returns-in-Demo-clause-read : goal.returns-in-Demo-clause-read
returns-in-Demo-clause-read g c = rw (c.in-Demo.is, c.new.ensures.items) (demo_is_read c.in-Demo.number c.in-Demo.workers (g.S.Source.left c.args.source.now) (g.S.Source.faults c.args.source.now) (g.S.Source.is_sound c.args.source.now))

pub returns-clause-read : goal.returns-clause-read
returns-clause-read g c =
    let source = reading g.S.Source.left g.S.Source.faults g.S.Source.is_sound c.args.source.now c.read_up_to.new.source in
    let read = c.in_ok-bytes.bytes.items in
    is_read c.args.command.now (reads_unless_demo c.args.command.now (λ number workers e. c.in_default.not-Demo number workers e)) source read
    (subst (λ (most : ℕ). ReadUpTo source.before source.after most read) c.most_read.ensures c.in_ok-bytes.ensures.read)
    (subst (λ (most : ℕ). TakesAtMost source.before source.after most) c.most_read.ensures c.read_up_to.ensures.never_past)
    (c.in_ok-bytes.ensures.no_fault (λ e. cc))

pub returns-in_err-bytes-clause-stopped : goal.returns-in_err-bytes-clause-stopped
returns-in_err-bytes-clause-stopped g c =
    let source = reading g.S.Source.left g.S.Source.faults g.S.Source.is_sound c.args.source.now c.read_up_to.new.source in
    let fault = c.in_err-bytes.field-0.0 in
    passed_on c.from_residual.result (of_read fault) _ c.from_residual.ensures.1
    (is_unread c.args.command.now (reads_unless_demo c.args.command.now (λ number workers e. c.in_default.not-Demo number workers e)) source fault
    (subst (λ (most : ℕ). TakesAtMost source.before source.after most) c.most_read.ensures c.read_up_to.ensures.never_past)
    (λ e. c.in_err-bytes.ensures.fault (cc))
    (λ other. c.in_err-bytes.ensures.no_fault (λ e. other (cc)))
    (λ is_sound e. c.in_err-bytes.ensures.sound is_sound (cc)))
