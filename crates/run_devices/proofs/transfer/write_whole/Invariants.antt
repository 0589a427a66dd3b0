use Rattle.std.proofs.Common.{◌≡◌, ◌≤◌, ◌+◌, length}
use Rattle.run_devices.proofs.SoFar.{WrittenSoFar}
use Rattle.run_devices.proofs.transfer.write_whole.Given as goal

abbrev pub invariant-loop-rest : goal.invariant-loop-rest
invariant-loop-rest g l = record {
  written : WrittenSoFar (g.O.Sink.got l.fn.out) (g.O.Sink.got l.out) l.text l.rest;
  faults : g.O.Sink.faults l.out ≡ g.O.Sink.faults l.fn.out;
  capacity : g.O.Sink.capacity l.fn.out + length l.rest ≤ g.O.Sink.capacity l.out + length l.text;
}

abbrev pub decreases-loop-rest : goal.decreases-loop-rest
decreases-loop-rest g l = length l.rest
