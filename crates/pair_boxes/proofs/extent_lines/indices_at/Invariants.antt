use Rattle.std.proofs.Common.{◌≡◌, drop, length}
use Rattle.pair_boxes.specs.inside.Digits.{AreIndicesAt}
use Rattle.pair_boxes.proofs.extent_lines.indices_at.Given as goal

-- the indices of the digits from one on
abbrev pub invariant-loop-k : goal.invariant-loop-k
invariant-loop-k l = record {
  nine : length l.indices ≡ 9;
  each : AreIndicesAt (drop l.k l.digits) l.slot l.indices;
}
