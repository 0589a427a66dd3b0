-- Cells in a line, with the values of the variables at their centres.
use Rattle.std.specs.Prelude.{◌≡◌, ℕ, ◌+◌, ◌-◌, ◌<◌, ◌==◌, min, ℤ, pos, List, length, slice_index, slice_index_or, slice_set, Option, None, if◌then◌else◌}
use Rattle.fixed_expr.specs.declared.lanes.TheConstants.{LANES}
use Rattle.grid_quantiser.specs.declared.extents.Extent.{Extent}
use Rattle.grid_quantiser.specs.Axes.{cells_of}
use Rattle.grid_quantiser.specs.Indices.{index_along}
use Rattle.plant_record.specs.Description.{Description, axes_of, vectors_of}
use Rattle.successor_box.specs.declared.cell_line.CellLine.{CellLine}
use Rattle.successor_box.specs.SuccessorBoxes.{central_values}
use Rattle.successor_box.specs.PairExtents.{IsExtentBeforeAt}

-- the index along a state of the cell so many cells further along a line
abbrev pub index_on : List ℕ → ℕ → ℕ → ℕ → ℕ
index_on indices along places k = slice_index indices k + (if k == along then places else 0)

-- A cell stands so many cells along a line from where the states have these indices.
pub record IsCellOn (p : Description) (indices : List ℕ) (along places c : ℕ) : Type 0 where
  pub cell : c < cells_of (axes_of p)
  pub each : (k : ℕ) → k < length p.states → index_along (axes_of p) k c ≡ index_on indices along places k

-- there are so many cells along a line
abbrev pub LiesInGrid : Description → List ℕ → ℕ → ℕ → Type 0
LiesInGrid p indices along cells = (places : ℕ) → places < cells → (c : ℕ) × IsCellOn p indices along places c

-- the cells in the lanes stand along a line, the last of so many in the lanes past it too
abbrev pub AreCellsOn : Description → List ℕ → ℕ → ℕ → (ℕ → ℕ) → Type 0
AreCellsOn p indices along cells cell = (lane : ℕ) → lane < LANES → IsCellOn p indices along (min lane (cells - 1)) (cell lane)

-- the values of the variables in a lane
abbrev pub values_in : CellLine → ℕ → List ℤ
values_in line lane = slice_set line.values line.along (slice_index_or line.column lane (pos 0))

-- A line has the values of the variables at the centres of cells, under its input vector.
pub record AreCentresOf (p : Description) (cell : ℕ → ℕ) (line : CellLine) : Type 0 where
  pub along : line.along < length p.states
  pub input : line.input < vectors_of p.inputs
  pub cells : (lane : ℕ) → lane < LANES → cell lane < cells_of (axes_of p)
  pub each : (lane k : ℕ) → lane < LANES → k < length p.states + length p.inputs + length p.noises → slice_index_or (values_in line lane) k (pos 0) ≡ slice_index_or (central_values p (cell lane) line.input) k (pos 0)

-- a line has the centres of some cells
abbrev pub HaveCentres : Description → CellLine → Type 0
HaveCentres p line = (cell : ℕ → ℕ) × AreCentresOf p cell line

-- a line has the centres of so many cells along it
abbrev pub HaveCentresOf : Description → List ℕ → ℕ → ℕ → CellLine → Type 0
HaveCentresOf p indices along cells line = (cell : ℕ → ℕ) → AreCellsOn p indices along cells cell → AreCentresOf p cell line

-- a line still has the centres of the same cells
abbrev pub KeepCentres : Description → CellLine → CellLine → Type 0
KeepCentres p old new = (cell : ℕ → ℕ) → AreCentresOf p cell old → AreCentresOf p cell new

-- the extents of the first cells under an input, along the axis of a state, on the extended axis
abbrev pub HoldExtentsUnder : Description → (ℕ → ℕ) → ℕ → ℕ → List (Option Extent) → Type 0
HoldExtentsUnder p cell u i extents = (lane : ℕ) → lane < length extents → IsExtentBeforeAt p (cell lane) u i 0 (slice_index_or extents lane None)

-- the same of the cells whose centres a line has, under its input
abbrev pub HoldExtentsAtCentres : Description → CellLine → ℕ → List (Option Extent) → Type 0
HoldExtentsAtCentres p line i extents = (cell : ℕ → ℕ) → AreCentresOf p cell line → HoldExtentsUnder p cell line.input i extents
