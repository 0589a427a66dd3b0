use Rattle.std.proofs.Common.{rules}
use Rattle.run_devices.proofs.Taking.{taken_till_fault, taken_past}
use Rattle.run_devices.proofs.transfer.read_up_to.Goals as goal

pub returns-in_err-n-clause-never_past : goal.returns-in_err-n-clause-never_past
returns-in_err-n-clause-never_past g c =
    taken_till_fault _ _ _ c.loop-buffer.bytes.items c.args.most c.loop-buffer.invariant.told c.in_err-n.ensures.kept (search rules)

pub returns-in_err-extend_from_slice-clause-never_past : goal.returns-in_err-extend_from_slice-clause-never_past
returns-in_err-extend_from_slice-clause-never_past g c =
    taken_past _ _ _ c.loop-buffer.bytes.items c.read.new.buf c.in_ok-n.n c.args.most c.loop-buffer.invariant.told c.in_ok-n.ensures.taken (search rules)
