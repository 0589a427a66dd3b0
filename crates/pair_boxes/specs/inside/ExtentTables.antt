-- The extents of all boxes along one axis.
use Rattle.std.specs.Prelude.{◌≡◌, ℕ, ◌+◌, ◌*◌, ◌<◌, ◌≤◌, ℤ, ◌≤ℤ◌, List, length, slice_index, slice_index_or, sum_by, Option, None}
use Rattle.std.specs.List.{All}
use Rattle.grid_quantiser.specs.declared.extents.Extent.{Extent}
use Rattle.grid_quantiser.specs.Axes.{no_axis, cells_of}
use Rattle.grid_quantiser.specs.Extents.{IsExtentOf, extended_axis}
use Rattle.plant_record.specs.Description.{Description, axes_of, vectors_of}
use Rattle.successor_box.specs.PairExtents.{index_in, shifts_along, shifted_by, IsExtentBeforeAt}
use Rattle.pair_boxes.specs.declared.digits.Digit.{Digit}
use Rattle.pair_boxes.specs.declared.extent_table.ExtentTable.{ExtentTable}
use Rattle.pair_boxes.specs.inside.Digits.{slot_at}
use Rattle.base.specs.declared.limits.TheConstants.{PAIRS_LIMIT}

-- what a cell brings to the slot of an extent
abbrev pub first_of : Description → List Digit → ℕ → ℕ
first_of p digits c = sum_by (λ (d : Digit). index_in p c 0 d.variable * d.stride) digits

-- the extent that a table holds where a cell brings so much, under an input
abbrev pub extent_in : ExtentTable → ℕ → ℕ → Option Extent
extent_in t first u = slice_index_or t.extents (first + slice_index t.inputs.items u) None

-- an extent is that of some range on the extended axis of a state
abbrev pub IsRelativeExtent : Description → ℕ → Option Extent → Type 0
IsRelativeExtent p i extent = (low : ℤ) × (high : ℤ) × (low ≤ℤ high) × IsExtentOf (extended_axis (slice_index_or (axes_of p) i no_axis)) low high extent

-- A table holds the extents of all pairs along the axis of a state, as many indices before as their cells shift them.
pub record IsExtentTableOf (p : Description) (i : ℕ) (t : ExtentTable) : Type 0 where
  pub digits : All (λ (d : Digit). d.variable < length p.states + length p.inputs) t.digits.items
  pub few : length t.extents ≤ PAIRS_LIMIT
  pub each : All (IsRelativeExtent p i) t.extents
  pub shifts : t.shifts ≡ shifts_along p i
  pub inputs : length t.inputs.items ≡ vectors_of p.inputs
  pub slot : (c u : ℕ) → c < cells_of (axes_of p) → u < vectors_of p.inputs → first_of p t.digits.items c + slice_index t.inputs.items u < length t.extents
  pub extent : (c u : ℕ) → c < cells_of (axes_of p) → u < vectors_of p.inputs → IsExtentBeforeAt p c u i (shifted_by p i c) (extent_in t (first_of p t.digits.items c) u)

-- An extent is that of all pairs that have a slot, as many indices before as their cells shift it.
pub record IsExtentFor (p : Description) (i : ℕ) (digits : List Digit) (slot : ℕ) (extent : Option Extent) : Type 0 where
  pub relative : IsRelativeExtent p i extent
  pub each : (c u : ℕ) → c < cells_of (axes_of p) → u < vectors_of p.inputs → slot_at digits (index_in p c u) ≡ slot → IsExtentBeforeAt p c u i (shifted_by p i c) extent

-- the extents of a slot and of the next ones
abbrev pub HoldExtentsFrom : Description → ℕ → List Digit → ℕ → List (Option Extent) → Type 0
HoldExtentsFrom p i digits slot extents = (j : ℕ) → j < length extents → IsExtentFor p i digits (slot + j) (slice_index_or extents j None)
