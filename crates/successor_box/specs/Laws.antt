-- What holds of every sound plant's successor boxes.
use Rattle.std.specs.Prelude.{◌≡◌, ℕ, ◌+◌, ◌<◌, ◌≤◌, ◌↔◌, ℤ, List, [], length, slice_index_or, Option, IfSome}
use Rattle.std.specs.List.{Contains}
use Rattle.grid_quantiser.specs.declared.boxes.CellBox.{CellBox}
use Rattle.grid_quantiser.specs.declared.extents.Extent.{Extent}
use Rattle.grid_quantiser.specs.Axes.{no_axis, cells_of}
use Rattle.grid_quantiser.specs.ExtentBoxes.{one_cell, with_extent}
use Rattle.grid_quantiser.specs.Cells.{IsInDomain, IsPointOf, cell_of, point_of}
use Rattle.plant_record.specs.Description.{Description, axes_of, vectors_of}
use Rattle.plant_record.specs.Steps.{IsNoise, step_of, StepStaysInRange}
use Rattle.plant_record.specs.Soundness.{IsSound}
use Rattle.successor_box.specs.SuccessorBoxes.{IsEnabledAt, AreSuccessors, IsBoxOf, cells_in}
use Rattle.successor_box.specs.Deviations.{HasNoOverflow}
use Rattle.successor_box.specs.PairExtents.{IsExtentAt, IsBoxAlong, shifted_by, IsExtentBeforeAt, AreAlikeIn}

-- a step from a point of a cell, under an enabled input and a noise in range, lies in the domain, and its cell
-- is a successor
abbrev pub StepsLieInTheBoxes : Type 0
StepsLieInTheBoxes =
    (p : Description) (c u : ℕ) (x w : List ℤ) → IsSound p → c < cells_of (axes_of p) → IsEnabledAt p c u → IsPointOf (axes_of p) c x → IsNoise p.noises w →
    IsInDomain (axes_of p) (step_of p x u w) × ((cells : List ℕ) → AreSuccessors p c u cells → Contains cells (cell_of (axes_of p) (step_of p x u w)))

-- without an overflow no step from the domain leaves the range
abbrev pub StepsStayInRange : Type 0
StepsStayInRange =
    (p : Description) (u : ℕ) (x w : List ℤ) → IsSound p → HasNoOverflow p → u < vectors_of p.inputs → IsInDomain (axes_of p) x → IsNoise p.noises w → StepStaysInRange p x u w

-- the cells of a pair's box are its successors
abbrev pub BoxesHoldTheSuccessors : Type 0
BoxesHoldTheSuccessors = (p : Description) (c u : ℕ) (b : Option CellBox) → IsBoxOf p c u b → AreSuccessors p c u (cells_in (axes_of p) b)

-- a pair has a successor exactly where its box lies in the domain
abbrev pub EnabledPairsHaveSuccessors : Type 0
EnabledPairsHaveSuccessors = (p : Description) (c u : ℕ) (cells : List ℕ) → IsSound p → AreSuccessors p c u cells → (cells ≡ [] → ⊥) ↔ IsEnabledAt p c u

-- a state's point, with 0 past the states, lies where the state does
abbrev pub PointsLieWithTheirStates : Type 0
PointsLieWithTheirStates =
    (p : Description) (xs : List ℤ) → length p.states ≤ length xs →
    (IsInDomain (axes_of p) (point_of xs) ↔ IsInDomain (axes_of p) xs) × (cell_of (axes_of p) (point_of xs) ≡ cell_of (axes_of p) xs)

-- the extent along a state's axis, as many indices before as its cell shifts it, depends on the pair's indices in the
-- variables of the state's equation alone, but for the state itself where it shifts with that
abbrev pub ExtentsDependOnIndices : Type 0
ExtentsDependOnIndices =
    (p : Description) (i c u d v : ℕ) (extent : Option Extent) → IsSound p → i < length p.equations →
    c < cells_of (axes_of p) → u < vectors_of p.inputs → d < cells_of (axes_of p) → v < vectors_of p.inputs →
    AreAlikeIn p i c u d v → IsExtentBeforeAt p d v i (shifted_by p i d) extent → IsExtentBeforeAt p c u i (shifted_by p i c) extent

-- A pair's box is made of its extents, from the one cell on no axis, state by state. At each state its
-- corners are in order, and cells of the grid.
pub record ExtentsMakeBoxes : Type 0 where
  pub start : (p : Description) (c u : ℕ) → IsBoxAlong p 0 c u one_cell
  pub more : (p : Description) (k c u : ℕ) (found : Option CellBox) (extent : Option Extent) → IsSound p → k < length p.equations →
      IsBoxAlong p k c u found → IsExtentAt p c u k extent → IsBoxAlong p (k + 1) c u (with_extent (slice_index_or (axes_of p) k no_axis) found extent)
  pub within : (p : Description) (k c u : ℕ) (found : Option CellBox) → IsSound p → IsBoxAlong p k c u found → IfSome found (λ b. (b.first ≤ b.last) × (b.last < cells_of (axes_of p)))
  pub all : (p : Description) (c u : ℕ) (found : Option CellBox) → IsSound p → IsBoxAlong p (length p.equations) c u found → IsBoxOf p c u found
