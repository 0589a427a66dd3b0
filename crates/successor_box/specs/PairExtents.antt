-- The successor box of a pair, state by state.
use Rattle.std.specs.Prelude.{◌≡◌, ℕ, ◌+◌, ◌-◌, ◌<◌, pos, Bool, not, ◌&&◌, ◌==◌, List, take, length, slice_index, slice_index_or, Option, IsTrue, if◌then◌else◌, nat_lt}
use Rattle.fixed_expr.specs.Mentions.{mentions}
use Rattle.fixed_expr.specs.Shifts.{shifts_with}
use Rattle.grid_quantiser.specs.declared.boxes.CellBox.{CellBox}
use Rattle.grid_quantiser.specs.declared.extents.Extent.{Extent}
use Rattle.grid_quantiser.specs.Axes.{no_axis}
use Rattle.grid_quantiser.specs.Indices.{index_along}
use Rattle.grid_quantiser.specs.Extents.{IsExtentOf, IsExtentBefore}
use Rattle.grid_quantiser.specs.ExtentBoxes.{IsBoxMeeting}
use Rattle.plant_record.specs.Description.{Description, axes_of, vectors_of}
use Rattle.plant_record.specs.ValueIndices.{value_index}
use Rattle.plant_record.specs.Steps.{equation_at}
use Rattle.successor_box.specs.SuccessorBoxes.{low_corner, high_corner}

-- the extent of the successor box of a cell, under an input, along the axis of a state
abbrev pub IsExtentAt : Description → ℕ → ℕ → ℕ → Option Extent → Type 0
IsExtentAt p c u i extent = IsExtentOf (slice_index_or (axes_of p) i no_axis) (slice_index_or (low_corner p c u) i (pos 0)) (slice_index_or (high_corner p c u) i (pos 0)) extent

-- the box of a cell under an input, on the axes of the first so many states alone
abbrev pub IsBoxAlong : Description → ℕ → ℕ → ℕ → Option CellBox → Type 0
IsBoxAlong p states c u found = IsBoxMeeting (take states (axes_of p)) (low_corner p c u) (high_corner p c u) found

-- the index of a cell and an input in a variable: along the axis of a state, or among the values of an input variable
abbrev pub index_in : Description → ℕ → ℕ → ℕ → ℕ
index_in p c u k = if nat_lt k (length p.states) then index_along (axes_of p) k c else value_index p.inputs (k - length p.states) u

-- the extents along an axis shift with the cell's own index there: the state's equation shifts with the state
abbrev pub shifts_along : Description → ℕ → Bool
shifts_along p i = shifts_with (equation_at p i) i

-- how many indices a cell shifts an extent
abbrev pub shifted_by : Description → ℕ → ℕ → ℕ
shifted_by p i c = if shifts_along p i then index_along (axes_of p) i c else 0

-- the extent of the successor box along an axis, were the box so many indices before, on the extended axis
abbrev pub IsExtentBeforeAt : Description → ℕ → ℕ → ℕ → ℕ → Option Extent → Type 0
IsExtentBeforeAt p c u i indices extent =
    IsExtentBefore (slice_index_or (axes_of p) i no_axis) indices (slice_index_or (low_corner p c u) i (pos 0)) (slice_index_or (high_corner p c u) i (pos 0)) extent

-- Indices, after those of the states, are those of an input vector's values.
pub record AreInputIndices (p : Description) (indices : List ℕ) (u : ℕ) : Type 0 where
  pub input : u < vectors_of p.inputs
  pub each : (k : ℕ) → k < length p.inputs → slice_index indices (length p.states + k) ≡ value_index p.inputs k u

-- an extent depends on a variable that stands in the state's equation, but for the state itself where the extent shifts with it
abbrev pub depends_on : Description → ℕ → ℕ → Bool
depends_on p i k = mentions (equation_at p i) k && not (shifts_along p i && k == i)

-- two pairs have the same indices in the states and the input variables on which an extent depends
abbrev pub AreAlikeIn : Description → ℕ → ℕ → ℕ → ℕ → ℕ → Type 0
AreAlikeIn p i c u d v = (k : ℕ) → k < length p.states + length p.inputs → IsTrue (depends_on p i k) → index_in p c u k ≡ index_in p d v k
