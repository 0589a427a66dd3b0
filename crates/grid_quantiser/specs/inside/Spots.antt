-- One of the numbers of an index, on one axis and on each, and the indices of a state.
use Rattle.std.specs.Prelude.{◌≡◌, ℕ, ◌<◌, ℤ, pos, ◌+ℤ◌, ◌-ℤ◌, ◌*ℤ◌, List, length, slice_index, slice_index_or}
use Rattle.grid_quantiser.specs.declared.axis.Axis.{Axis}
use Rattle.grid_quantiser.specs.declared.axis.CellPoint.{CellPoint}
use Rattle.grid_quantiser.specs.declared.axis.CellPoint.TheVariants.{Low, Centre, High}
use Rattle.mixed_radix.specs.Radix.{digits}
use Rattle.grid_quantiser.specs.Axes.{counts_of, axis_at}
use Rattle.grid_quantiser.specs.Cells.{radius_of, numbers_at, index_of}

-- the least number of an index, its centre, or its greatest number
abbrev pub coordinate_of : CellPoint → Axis → ℕ → ℤ
coordinate_of Low a index = a.lo +ℤ (a.width *ℤ pos index)
coordinate_of Centre a index = (a.lo +ℤ (a.width *ℤ pos index)) +ℤ radius_of a
coordinate_of High a index = (a.lo +ℤ (a.width *ℤ pos index)) +ℤ (a.width -ℤ pos 1)

-- that number in each state of a cell
abbrev pub numbers_of : CellPoint → List Axis → ℕ → List ℤ
numbers_of cell_point axes c = numbers_at (coordinate_of cell_point) axes (digits (counts_of axes) c)

-- a list holds the index of a state's number on each axis
abbrev pub HoldsIndices : List Axis → List ℤ → List ℕ → Type 0
HoldsIndices axes x indices = (k : ℕ) → k < length axes → slice_index indices k ≡ index_of (axis_at axes k) (slice_index_or x k (pos 0))
