use Rattle.std.proofs.Common.{◌≡◌, ℕ, ◌<◌, length, get_or, pos}
use Rattle.grid_quantiser.specs.Axes.{no_axis}
use Rattle.grid_quantiser.specs.Cells.{index_of}
use Rattle.grid_quantiser.specs.Extents.{IsOnAxis}
use Rattle.grid_quantiser.proofs.cells.indices_on.Given as goal

abbrev pub invariant-loop-i : goal.invariant-loop-i
invariant-loop-i l = record {
  six : length l.indices ≡ 6;
  on : (k : ℕ) → k < l.i → IsOnAxis (get_or l.axes k no_axis) (get_or l.x k (pos 0));
  each : (k : ℕ) → k < l.i → get_or l.indices k 0 ≡ index_of (get_or l.axes k no_axis) (get_or l.x k (pos 0));
}
