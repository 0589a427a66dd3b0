use Rattle.std.proofs.Common.{◌≡◌, ◌-◌, ◌≤◌, vec_len}
use Rattle.std.specs.Prelude.{IsTrue}
use Rattle.run_devices.proofs.SoFar.{ReadSoFar}
use Rattle.run_devices.proofs.transfer.read_up_to.Given as goal

abbrev pub invariant-loop-buffer : goal.invariant-loop-buffer
invariant-loop-buffer g l = record {
  within : vec_len l.bytes ≤ l.most;
  told : ReadSoFar (g.S.Source.left l.fn.source) (g.S.Source.left l.source) l.bytes.items;
  faults : g.S.Source.faults l.source ≡ g.S.Source.faults l.fn.source;
  sound : IsTrue (g.S.Source.is_sound l.fn.source) → IsTrue (g.S.Source.is_sound l.source);
}

abbrev pub decreases-loop-buffer : goal.decreases-loop-buffer
decreases-loop-buffer g l = l.most - vec_len l.bytes
