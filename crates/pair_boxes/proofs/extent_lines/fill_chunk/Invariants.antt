use Rattle.std.proofs.Common.{◌≡◌, ℕ, ◌+◌, ◌-◌, ◌<◌, ◌≤◌, None, length, get_or}
use Rattle.pair_boxes.specs.inside.ExtentTables.{IsExtentFor}
use Rattle.pair_boxes.proofs.extent_lines.fill_chunk.Given as goal

-- the lines so far
abbrev pub invariant-loop-done : goal.invariant-loop-done
invariant-loop-done l = record {
  long : length l.chunk ≡ length l.fn.chunk;
  within : l.done ≤ length l.chunk;
  each : (j : ℕ) → j < l.done → IsExtentFor l.of.sampled.plant.now l.of.state l.digits.each.items (l.slot + j) (get_or l.chunk j None);
}

abbrev pub decreases-loop-done : goal.decreases-loop-done
decreases-loop-done l = length l.chunk - l.done
