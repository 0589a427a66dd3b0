use Rattle.std.proofs.Common.{◌≡◌, ℕ, ◌<◌, length, get_or, None}
use Rattle.successor_box.specs.PairExtents.{IsExtentAt}
use Rattle.successor_box.proofs.one_pair.successors.Given as goal

-- the extents so far
abbrev pub invariant-loop-state : goal.invariant-loop-state
invariant-loop-state l = record {
  six : length l.extents ≡ 6;
  each : (i : ℕ) → i < l.state → IsExtentAt l.p l.c l.input i (get_or l.extents i None);
}
