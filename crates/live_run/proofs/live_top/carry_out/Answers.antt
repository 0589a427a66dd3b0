use Rattle.std.proofs.Common.{refl}
use Rattle.run_devices.specs.Devices.{reading, writing}
use Rattle.live_run.proofs.Ending.{ends_stopped, ends_written_out}
use Rattle.live_run.proofs.live_top.carry_out.Goals as goal

pub returns-in-Ok : goal.returns-in-Ok
returns-in-Ok g c =
    let source = reading g.S.Source.left g.S.Source.faults g.S.Source.is_sound c.args.source.now c.answers_on_source.new.source in
    let out = writing g.O.Sink.got g.O.Sink.faults g.O.Sink.capacity c.args.out.now c.write_out.new.out in
    ends_written_out c.write_out.result c.in-Ok.text.items source out c.in-Ok.ensures.answer (rw c.deref.ensures.value at c.write_out.ensures)

pub returns-in-Err : goal.returns-in-Err
returns-in-Err g c =
    let source = reading g.S.Source.left g.S.Source.faults g.S.Source.is_sound c.args.source.now c.answers_on_source.new.source in
    let out = writing g.O.Sink.got g.O.Sink.faults g.O.Sink.capacity c.args.out.now c.args.out.now in
    rw c.outcome.ensures (ends_stopped c.in-Err.stop source out c.in-Err.ensures.stopped (record { nothing = refl; no_fault = refl }))
