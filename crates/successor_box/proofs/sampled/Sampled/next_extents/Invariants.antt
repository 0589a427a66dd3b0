use Rattle.std.proofs.Common.{◌≡◌, ℕ, ◌<◌, length, get_or, None}
use Rattle.successor_box.specs.PairExtents.{IsExtentBeforeAt}
use Rattle.successor_box.specs.inside.Lines.{AreValuesUnder}
use Rattle.successor_box.proofs.sampled.Sampled.next_extents.Given as goal

-- the extents so far
abbrev pub invariant-loop-j : goal.invariant-loop-j
invariant-loop-j l = record {
  long : length l.extents ≡ length l.fn.extents;
  each : (cell : ℕ → ℕ) → AreValuesUnder l.self.plant.now cell l.input l.at → (i : ℕ) → i < l.j → IsExtentBeforeAt l.self.plant.now (cell i) l.input l.state 0 (get_or l.extents i None);
}
