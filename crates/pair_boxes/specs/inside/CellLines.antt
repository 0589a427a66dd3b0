-- Lines of cells, and the boxes of cells one after another.
use Rattle.std.specs.Prelude.{◌≡◌, ℕ, ◌+◌, ◌-◌, ◌*◌, ◌/◌, ◌%◌, ◌<◌, ◌≤◌, ◌≢◌, List, length, replicate, slice_index_or, Option, None, IfSome, IsTrue}
use Rattle.std.specs.List.{All}
use Rattle.fixed_expr.specs.declared.lanes.TheConstants.{LANES}
use Rattle.grid_quantiser.specs.declared.boxes.CellBox.{CellBox}
use Rattle.grid_quantiser.specs.declared.extents.Extent.{Extent}
use Rattle.grid_quantiser.specs.Axes.{no_axis, cells_of}
use Rattle.plant_record.specs.Description.{Description, axes_of, vectors_of}
use Rattle.successor_box.specs.PairExtents.{IsExtentBeforeAt}
use Rattle.grid_quantiser.specs.ExtentBoxes.{one_cell}
use Rattle.pair_boxes.specs.CellsFrom.{AreBoxesFrom}
use Rattle.pair_boxes.specs.declared.digits.Digit.{Digit}
use Rattle.pair_boxes.specs.declared.terms.TermTable.{TermTable}
use Rattle.pair_box.specs.declared.pair_box.TheConstants.{SUMS_LIMIT}
use Rattle.pair_box.specs.Sums.{plus}
use Rattle.pair_boxes.specs.inside.Terms.{AreIndicesOf, IsTermFrom, IsSumAlong, AreSumsAlong}

-- the last state
abbrev pub last_state : Description → ℕ
last_state p = length p.states - 1

-- how many cells differ in the index along the last state alone
abbrev pub line_length : Description → ℕ
line_length p = (slice_index_or (axes_of p) (last_state p) no_axis).count

-- so many cells from one on are in one line
pub record AreInLine (p : Description) (c n : ℕ) : Type 0 where
  pub some : 1 ≤ n
  pub within : c + n ≤ cells_of (axes_of p)
  pub row : c % line_length p + n ≤ line_length p

-- a cell is in another's line
abbrev pub IsInLineOf : Description → ℕ → ℕ → Type 0
IsInLineOf p c d = (d < cells_of (axes_of p)) × (d / line_length p ≡ c / line_length p)

-- boxes, one for each input, are the sums of each cell in the line of one with these indices
abbrev pub AreSumsOfLine : Description → ℕ → List ℕ → List (Option CellBox) → Type 0
AreSumsOfLine p states indices boxes = (c d : ℕ) → c < cells_of (axes_of p) → AreIndicesOf p c indices → IsInLineOf p c d → AreSumsAlong p states d one_cell boxes

-- cells of a line, from one with these indices on
abbrev pub AreCellsFrom : Description → List ℕ → ℕ → ℕ → Type 0
AreCellsFrom p indices c n = AreInLine p c n × AreIndicesOf p c indices

-- Boxes, one for each input of each cell from one on, have with a base for each cell the cells' sums on the axes of the first so many states.
pub record AreSumsOfCells (p : Description) (states c n : ℕ) (bases boxes : List (Option CellBox)) : Type 0 where
  pub few : n ≤ LANES
  pub one_each : length boxes ≡ n * vectors_of p.inputs
  pub each : (k u : ℕ) → k < n → u < vectors_of p.inputs → IsSumAlong p states (c + k) u (slice_index_or bases k None) (slice_index_or boxes (k * vectors_of p.inputs + u) None)

-- boxes, one for each input, of cells of a line from one on
abbrev pub AreInputsOfLine : Description → ℕ → List (Option CellBox) → Type 0
AreInputsOfLine p c boxes = (n : ℕ) × (length boxes ≡ n * vectors_of p.inputs) × AreInLine p c n

-- boxes are with bases the sums of some cells, from one with these indices on
abbrev pub HaveCells : Description → ℕ → List ℕ → List (Option CellBox) → List (Option CellBox) → Type 0
HaveCells p states indices bases boxes = (c n : ℕ) × AreCellsFrom p indices c n × AreSumsOfCells p states c n bases boxes

-- the sums of cells from one with these indices on become their sums on the axes of one more state
abbrev pub AddsToCells : Description → ℕ → List ℕ → List (Option CellBox) → List (Option CellBox) → List (Option CellBox) → List (Option CellBox) → Type 0
AddsToCells p i indices bases after old new = (c n : ℕ) → AreCellsFrom p indices c n → AreSumsOfCells p i c n bases old → AreSumsOfCells p (i + 1) c n after new

-- boxes are with some bases such sums
abbrev pub HaveSums : Description → ℕ → List ℕ → List (Option CellBox) → Type 0
HaveSums p states indices boxes = (bases : List (Option CellBox)) × HaveCells p states indices bases boxes

-- with the same bases the sums become those on the axes of one more state
abbrev pub AddsTo : Description → ℕ → List ℕ → List (Option CellBox) → List (Option CellBox) → Type 0
AddsTo p i indices old new = (bases : List (Option CellBox)) → AddsToCells p i indices bases bases old new

-- sums on all axes, with bases, become the cells' boxes
abbrev pub BecomeWhole : Description → List (Option CellBox) → List (Option CellBox) → List (Option CellBox) → Type 0
BecomeWhole p bases old new = (c n : ℕ) → AreSumsOfCells p (length p.equations) c n bases old → AreBoxesFrom p c new

-- sums of cells from one with these indices on become the cells' boxes
abbrev pub BecomeBoxes : Description → ℕ → List ℕ → List (Option CellBox) → List (Option CellBox) → Type 0
BecomeBoxes p states indices old new = (c n : ℕ) → AreCellsFrom p indices c n → AreSumsOfCells p states c n (replicate LANES one_cell) old → AreBoxesFrom p c new

-- the boxes of each cell are what the first cell's were
abbrev pub AreCopiesOfFirst : ℕ → List (Option CellBox) → List (Option CellBox) → Type 0
AreCopiesOfFirst inputs old new = (k u : ℕ) → k < length old / inputs → u < inputs → slice_index_or new (k * inputs + u) None ≡ slice_index_or old u None

-- extents along an axis, under an input, of the cells from one on
abbrev pub AreExtentsUnder : Description → ℕ → ℕ → ℕ → List (Option Extent) → Type 0
AreExtentsUnder p c u i extents = (k : ℕ) → k < length extents → IsExtentBeforeAt p (c + k) u i 0 (slice_index_or extents k None)

-- the box of each cell under an input is changed by the term of the cell's extent
abbrev pub AddsTermsUnder : Description → ℕ → ℕ → List (Option Extent) → List (Option CellBox) → List (Option CellBox) → Type 0
AddsTermsUnder p i u extents old new =
    (k : ℕ) → k < length extents →
    (x : Option CellBox) × IsTermFrom p i 0 (slice_index_or extents k None) x × (slice_index_or new (k * vectors_of p.inputs + u) None ≡ plus (slice_index_or old (k * vectors_of p.inputs + u) None) x)

-- the boxes of so many cells under an input are within the sums
abbrev pub AreSumsUnder : Description → ℕ → ℕ → List (Option CellBox) → Type 0
AreSumsUnder p u n boxes = (k : ℕ) → k < n → IfSome (slice_index_or boxes (k * vectors_of p.inputs + u) None) (λ (b : CellBox). b.last < SUMS_LIMIT)

-- the boxes under the other inputs stay as they are
abbrev pub KeepsOtherInputs : Description → ℕ → List (Option CellBox) → List (Option CellBox) → Type 0
KeepsOtherInputs p u old new =
    (k w : ℕ) → w < vectors_of p.inputs → w ≢ u → slice_index_or new (k * vectors_of p.inputs + w) None ≡ slice_index_or old (k * vectors_of p.inputs + w) None

-- The terms of a state's table depend on no index along the last state, nor shift with it.
pub record StaysAlongLines (last i : ℕ) (t : TermTable) : Type 0 where
  pub digits : All (λ (d : Digit). d.variable ≢ last) t.digits.items
  pub shifts : IsTrue t.shifts → i ≢ last
