-- How many indices an axis has.
use Rattle.std.proofs.Common.{ℕ, ◌^◌, ◌<◌, ◌≤◌, arith, List, length, get_or}
use Rattle.mixed_radix.proofs.Steps.{some_count_fits}
use Rattle.grid_quantiser.specs.declared.axis.Axis.{Axis}
use Rattle.grid_quantiser.specs.Axes.{AreAxes, no_axis, counts_of, cells_of}
use Rattle.grid_quantiser.proofs.Suffixes.{some_cells}
use Rattle.grid_quantiser.proofs.Counts.{length-counts_of, each_count}

-- the indices of an axis are few
pub few_indices : (axes : List Axis) (i : ℕ) → AreAxes axes → cells_of axes ≤ 2 ^ 20 → i < length axes → (get_or axes i no_axis).count ≤ 2 ^ 20
few_indices axes i grid limit within =
    omega (arith, limit, each_count axes i, some_count_fits (counts_of axes) i (omega (arith, within, length-counts_of axes)) (some_cells axes grid.each))
