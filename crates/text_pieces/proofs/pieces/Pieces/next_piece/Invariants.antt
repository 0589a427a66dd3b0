use Rattle.std.proofs.Common.{◌≡◌, ◌-◌, ◌≤◌, length, take, drop}
use Rattle.text_pieces.proofs.pieces.Pieces.next_piece.Given as goal

-- the bytes so far, and those that are left
abbrev pub invariant-loop-filled : goal.invariant-loop-filled
invariant-loop-filled g l = record {
  capacity : l.filled ≤ length l.buf;
  enough : l.filled ≤ length (g.Self.Pieces.left l.fn.self);
  piece : take l.filled l.buf ≡ take l.filled (g.Self.Pieces.left l.fn.self);
  left : g.Self.Pieces.left l.self ≡ drop l.filled (g.Self.Pieces.left l.fn.self);
}

abbrev pub decreases-loop-filled : goal.decreases-loop-filled
decreases-loop-filled g l = length l.buf - l.filled
