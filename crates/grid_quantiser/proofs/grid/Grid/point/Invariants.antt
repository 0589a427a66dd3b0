use Rattle.std.proofs.Common.{◌≡◌, ℕ, ◌<◌, ◌≤◌, length, get_or, pos}
use Rattle.grid_quantiser.specs.Axes.{no_axis}
use Rattle.grid_quantiser.specs.inside.Spots.{coordinate_of}
use Rattle.grid_quantiser.proofs.grid.Grid.point.Given as goal

abbrev pub invariant-loop-i : goal.invariant-loop-i
invariant-loop-i l = record {
  six : length l.point ≡ 6;
  each : (k : ℕ) → k < l.i → get_or l.point k (pos 0) ≡ coordinate_of l.cell_point (get_or l.axes k no_axis) (get_or l.indices k 0);
  rest : (k : ℕ) → l.i ≤ k → get_or l.point k (pos 0) ≡ pos 0;
}
