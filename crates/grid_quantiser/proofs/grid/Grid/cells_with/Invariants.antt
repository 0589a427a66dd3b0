use Rattle.std.proofs.Common.{◌≡◌, ℕ, ◌<◌, length, get_or, pos}
use Rattle.grid_quantiser.specs.Axes.{no_axis}
use Rattle.grid_quantiser.specs.inside.Overlaps.{AreIndicesIn}
use Rattle.grid_quantiser.proofs.grid.Grid.cells_with.Given as goal

abbrev pub invariant-loop-i : goal.invariant-loop-i
invariant-loop-i l = record {
  six_first : length l.first ≡ 6;
  six_last : length l.last ≡ 6;
  each : (k : ℕ) → k < l.i → AreIndicesIn l.overlap (get_or l.axes k no_axis) (get_or l.lo k (pos 0)) (get_or l.hi k (pos 0)) (get_or l.first k 0) (get_or l.last k 0);
}
