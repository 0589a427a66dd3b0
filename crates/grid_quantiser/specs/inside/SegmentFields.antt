-- How the segments of a box are gone through: by how many of its cells were given.
use Rattle.std.specs.Prelude.{◌≡◌, ℕ, ◌-◌, ◌%◌, ◌≤◌, List, length}
use Rattle.mixed_radix.specs.Boxes.{box_counts, last_of}
use Rattle.base.specs.declared.limits.TheConstants.{CELLS_LIMIT}
use Rattle.grid_quantiser.specs.declared.axis.Axis.{Axis}
use Rattle.grid_quantiser.specs.declared.boxes.CellBox.{CellBox}
use Rattle.grid_quantiser.specs.Axes.{AreAxes, counts_of, cells_of}
use Rattle.grid_quantiser.specs.CellBoxes.{IsCellBox, cells_between}

-- Whole segments of the box were given.
pub record AreSegments (axes : List Axis) (b : CellBox) (count per_segment given : ℕ) : Type 0 where
  pub grid : AreAxes axes
  pub limit : cells_of axes ≤ CELLS_LIMIT
  pub ordered : IsCellBox axes b.first b.last
  pub count_is : count ≡ length (cells_between axes b.first b.last)
  pub per_segment_is : per_segment ≡ last_of (box_counts (counts_of axes) (b.last - b.first))
  pub within : given ≤ count
  pub whole : given % per_segment ≡ 0
