use Rattle.std.proofs.Common.{◌≡◌, ℕ, ◌<◌, length, get_or}
use Rattle.successor_box.specs.PairExtents.{index_in}
use Rattle.pair_boxes.proofs.digits.indices_of.Given as goal

-- the indices so far
abbrev pub invariant-loop-k : goal.invariant-loop-k
invariant-loop-k l = record {
  nine : length l.indices ≡ 9;
  done : (i : ℕ) → i < l.k → get_or l.indices i 0 ≡ index_in l.sampled.plant.now l.c l.input i;
}
