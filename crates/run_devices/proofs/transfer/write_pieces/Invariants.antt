use Rattle.std.proofs.Common.{◌≡◌, ◌≤◌, ◌+◌, drop, length}
use Rattle.std.specs.List.{flat_map}
use Rattle.run_devices.proofs.SoFar.{WrittenSoFar}
use Rattle.run_devices.proofs.transfer.write_pieces.Given as goal

abbrev pub invariant-loop-piece : goal.invariant-loop-piece
invariant-loop-piece g l = record {
  written : WrittenSoFar (g.O.Sink.got l.fn.out) (g.O.Sink.got l.out) (flat_map (λ piece. piece.now) l.pieces) (flat_map (λ piece. piece.now) (drop l.piece-index l.pieces));
  faults : g.O.Sink.faults l.out ≡ g.O.Sink.faults l.fn.out;
  capacity : g.O.Sink.capacity l.fn.out + length (flat_map (λ piece. piece.now) (drop l.piece-index l.pieces)) ≤ g.O.Sink.capacity l.out + length (flat_map (λ piece. piece.now) l.pieces);
}
