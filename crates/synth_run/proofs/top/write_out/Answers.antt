use Rattle.std.proofs.Common.{subst}
use Rattle.run_devices.specs.Devices.{writing}
use Rattle.run_devices.specs.declared.transfer.WriteFault.{WriteFault}
use Rattle.run_devices.specs.Transfers.{StopsBy}
use Rattle.command_texts.specs.Texts.{bytes_of}
use Rattle.synth_run.proofs.top.write_out.Goals as goal

pub returns-in-Err-Device : goal.returns-in-Err-Device
returns-in-Err-Device g c =
    let out = writing g.O.Sink.got g.O.Sink.faults g.O.Sink.capacity c.args.out.now c.write.new.out in
    subst (λ (f : WriteFault). StopsBy f out (bytes_of c.args.text.now)) c.in-Err-Device.field-0-is c.in-Err-Device.ensures.stopped
