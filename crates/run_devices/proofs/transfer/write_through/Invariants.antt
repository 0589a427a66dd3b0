use Rattle.std.proofs.Common.{◌≡◌, ◌≤◌, ◌+◌, length}
use Rattle.run_devices.proofs.SoFar.{WrittenSoFar}
use Rattle.run_devices.proofs.transfer.write_through.Given as goal

abbrev pub invariant-loop-count : goal.invariant-loop-count
invariant-loop-count g l = record {
  written : WrittenSoFar (g.O.Sink.got l.fn.out) (g.O.Sink.got l.out) (g.T.Pieces.left l.fn.text) (g.T.Pieces.left l.text);
  faults : g.O.Sink.faults l.out ≡ g.O.Sink.faults l.fn.out;
  capacity : g.O.Sink.capacity l.fn.out + length (g.T.Pieces.left l.text) ≤ g.O.Sink.capacity l.out + length (g.T.Pieces.left l.fn.text);
}

abbrev pub decreases-loop-count : goal.decreases-loop-count
decreases-loop-count g l = length (g.T.Pieces.left l.text)
