-- Boxes as sums of terms, and the terms of all boxes in one table for each state.
use Rattle.std.specs.Prelude.{◌≡◌, ℕ, ◌+◌, ◌*◌, ◌<◌, ◌≤◌, ◌==◌, List, drop, length, slice_index, slice_index_or, sum_by, Option, None, IfSome, IsTrue, if◌then◌else◌}
use Rattle.std.specs.List.{All}
use Rattle.grid_quantiser.specs.declared.boxes.CellBox.{CellBox}
use Rattle.grid_quantiser.specs.declared.extents.Extent.{Extent}
use Rattle.grid_quantiser.specs.Axes.{no_axis, cells_of}
use Rattle.plant_record.specs.Description.{Description, axes_of, vectors_of}
use Rattle.successor_box.specs.AdditiveInputs.{AreInputIncrements}
use Rattle.successor_box.specs.PairExtents.{index_in, shifts_along, shifted_by, IsExtentAt, IsExtentBeforeAt, IsBoxAlong}
use Rattle.pair_boxes.specs.declared.digits.Digit.{Digit}
use Rattle.pair_boxes.specs.declared.terms.Terms.{Terms}
use Rattle.pair_boxes.specs.declared.terms.Terms.TheVariants.{Listed, Shifted}
use Rattle.pair_boxes.specs.declared.terms.TermTable.{TermTable}
use Rattle.pair_boxes.specs.declared.terms.StateTerms.{StateTerms}
use Rattle.pair_boxes.specs.declared.terms.StateTerms.TheVariants.{Table, PerPair}
use Rattle.pair_boxes.specs.inside.Digits.{slot_at}
use Rattle.pair_boxes.specs.inside.ExtentTables.{first_of}
use Rattle.pair_box.specs.Sums.{term, plus}
use Rattle.pair_boxes.specs.inside.TermSums.{enlarged}
use Rattle.base.specs.declared.limits.TheConstants.{CELLS_LIMIT, PAIRS_LIMIT}

-- how many cells one index along the axis of a state makes
abbrev pub stride_of : Description → ℕ → ℕ
stride_of p i = cells_of (drop (i + 1) (axes_of p))

-- how many indices along an axis its extents shift by: one where they don't
abbrev pub own_count : Description → ℕ → ℕ
own_count p i = if shifts_along p i then (slice_index_or (axes_of p) i no_axis).count else 1

-- what a pair's extent along an axis adds to its box
abbrev pub IsTermAt : Description → ℕ → ℕ → ℕ → Option CellBox → Type 0
IsTermAt p c u i b = (extent : Option Extent) × IsExtentAt p c u i extent × (b ≡ term (stride_of p i) extent)

-- what an extent adds to the boxes of the pairs that have it so many indices before
abbrev pub IsTermFrom : Description → ℕ → ℕ → Option Extent → Option CellBox → Type 0
IsTermFrom p i indices extent b = (c u : ℕ) → IsExtentBeforeAt p c u i indices extent → IsTermAt p c u i b

-- the terms of extents, shifted by each of so many indices, one after another
abbrev pub HoldTermsFrom : Description → ℕ → ℕ → List (Option Extent) → List (Option CellBox) → Type 0
HoldTermsFrom p i own extents terms =
    (o k : ℕ) → o < own → k < length extents → IsTermFrom p i o (slice_index_or extents k None) (slice_index_or terms (o * length extents + k) None)

-- Two boxes have as their sum the box of a cell under an input on the axes of the first so many states, in cells of the whole grid.
pub record IsSumAlong (p : Description) (states c u : ℕ) (base rest : Option CellBox) : Type 0 where
  pub found : Option CellBox
  pub along : IsBoxAlong p states c u found
  pub sum : plus base rest ≡ enlarged (cells_of (drop states (axes_of p))) found
  pub base_few : IfSome base (λ (b : CellBox). b.last ≤ states * CELLS_LIMIT)
  pub rest_few : IfSome rest (λ (b : CellBox). b.last ≤ states * CELLS_LIMIT)

-- boxes, one for each input, have with one more the sums that are a cell's boxes on the axes of the first so many states
abbrev pub AreSumsAlong : Description → ℕ → ℕ → Option CellBox → List (Option CellBox) → Type 0
AreSumsAlong p states c base boxes = (u : ℕ) → u < vectors_of p.inputs → IsSumAlong p states c u base (slice_index_or boxes u None)

-- the indices of a cell in the states, and of the first input
abbrev pub AreIndicesOf : Description → ℕ → List ℕ → Type 0
AreIndicesOf p c indices = (k : ℕ) → k < length p.states + length p.inputs → slice_index indices k ≡ index_in p c 0 k

-- what indices bring to the slot of a term
abbrev pub first_in : TermTable → List ℕ → ℕ
first_in t indices = sum_by (λ (d : Digit). slice_index indices d.variable * d.stride) t.digits.items

-- how many slots a cell is from the one before it in its line: the slot that has an index of 1 in the last state alone
abbrev pub step_of : TermTable → ℕ → ℕ
step_of t last = slot_at t.digits.items (λ k. if k == last then 1 else 0)

-- how many indices terms have
abbrev pub count_of : Terms → ℕ
count_of (Listed terms) = length terms.items
count_of (Shifted extents) = length extents

-- the term of a pair stands at a slot, or the extent that makes it, so many indices before
abbrev pub HasTermAt : Description → ℕ → ℕ → ℕ → Terms → ℕ → Type 0
HasTermAt p c u i (Listed terms) slot = IsTermAt p c u i (slice_index_or terms.items slot None)
HasTermAt p c u i (Shifted extents) slot = IsExtentBeforeAt p c u i (shifted_by p i c) (slice_index_or extents slot None)

-- A table holds the terms of all pairs along the axis of a state.
pub record IsTermTableOf (p : Description) (i : ℕ) (t : TermTable) : Type 0 where
  pub digits : All (λ (d : Digit). d.variable < length p.states + length p.inputs) t.digits.items
  pub few : count_of t.terms ≤ PAIRS_LIMIT
  pub shifts : t.shifts ≡ shifts_along p i
  pub free : IsTrue t.free → All (λ n. n ≡ 0) t.inputs.items
  pub stride : t.stride ≡ stride_of p i
  pub inputs : length t.inputs.items ≡ vectors_of p.inputs
  pub slot : (c u : ℕ) → c < cells_of (axes_of p) → u < vectors_of p.inputs → first_of p t.digits.items c + slice_index t.inputs.items u < count_of t.terms
  pub term : (c u : ℕ) → c < cells_of (axes_of p) → u < vectors_of p.inputs → HasTermAt p c u i t.terms (first_of p t.digits.items c + slice_index t.inputs.items u)

-- a state's terms stand in a table, or are found pair by pair
abbrev pub AreTermsOf : Description → ℕ → StateTerms → Type 0
AreTermsOf p i (Table t) = IsTermTableOf p i t
AreTermsOf p i (PerPair stride increments) = (stride ≡ stride_of p i) × IfSome increments (λ s. AreInputIncrements p i s.items)

-- The terms of all pairs along all axes.
pub record AreTermTablesOf (p : Description) (tables : List StateTerms) : Type 0 where
  pub one_each : length tables ≡ length p.equations
  pub each : (i : ℕ) (d : StateTerms) → i < length p.equations → AreTermsOf p i (slice_index_or tables i d)

-- A cell brings so much to a state's table, and shifts its extents so many indices.
pub record Brings (p : Description) (i : ℕ) (t : TermTable) (brought own c : ℕ) : Type 0 where
  pub cell : c < cells_of (axes_of p)
  pub first : brought ≡ first_of p t.digits.items c
  pub shifts : own ≡ shifted_by p i c

-- a box is what the extents of all pairs add whose cells bring so much, under each input that has the slot of this one
abbrev pub IsTermBrought : Description → ℕ → TermTable → ℕ → ℕ → ℕ → Option CellBox → Type 0
IsTermBrought p i t brought own input b =
    (c u : ℕ) → Brings p i t brought own c → u < vectors_of p.inputs → slice_index t.inputs.items u ≡ slice_index t.inputs.items input → IsTermAt p c u i b

-- boxes are with one more the sums of a cell that brings this to a table
abbrev pub HasSums : Description → ℕ → TermTable → ℕ → ℕ → List (Option CellBox) → Type 0
HasSums p i t brought own boxes = (c : ℕ) × (base : Option CellBox) × Brings p i t brought own c × AreSumsAlong p i c base boxes

-- the same with this one
abbrev pub HasSumsWith : Description → ℕ → TermTable → ℕ → ℕ → Option CellBox → List (Option CellBox) → Type 0
HasSumsWith p i t brought own base boxes = (c : ℕ) × Brings p i t brought own c × AreSumsAlong p i c base boxes

-- the sums of each cell that brings this become its sums on the axes of one more state
abbrev pub AddsState : Description → ℕ → TermTable → ℕ → ℕ → Option CellBox → Option CellBox → List (Option CellBox) → List (Option CellBox) → Type 0
AddsState p i t brought own base after old new = (c : ℕ) → Brings p i t brought own c → AreSumsAlong p i c base old → AreSumsAlong p (i + 1) c after new

-- the same whatever the one more is
abbrev pub AddsTerms : Description → ℕ → TermTable → ℕ → ℕ → List (Option CellBox) → List (Option CellBox) → Type 0
AddsTerms p i t brought own old new = (c : ℕ) (base : Option CellBox) → Brings p i t brought own c → AreSumsAlong p i c base old → AreSumsAlong p (i + 1) c base new
