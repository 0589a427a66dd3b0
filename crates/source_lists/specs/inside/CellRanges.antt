-- Between which cells the boxes of neighbouring pairs lie.
use Rattle.std.specs.Prelude.{◌≡◌, ℕ, ◌+◌, ◌*◌, ◌/◌, ◌<◌, ◌≤◌, ◌⊎◌, min, List, length, slice_index_or, Option, IfSome}
use Rattle.grid_quantiser.specs.declared.boxes.CellBox.{CellBox}
use Rattle.pair_box.specs.PlantBoxes.{box_at}
use Rattle.source_lists.specs.declared.cell_ranges.CellRange.{CellRange}
use Rattle.source_lists.specs.declared.cell_ranges.TheConstants.{PAIRS_FOR_A_RANGE}

-- a box lies in a range, where there is a box
abbrev pub LiesIn : CellRange → Option CellBox → Type 0
LiesIn range b = IfSome b (λ (b : CellBox). (range.first ≤ b.first) × (b.last ≤ range.last))

-- the boxes of the pairs of a number lie in a range
abbrev pub IsRangeOf : List (Option CellBox) → ℕ → CellRange → Type 0
IsRangeOf boxes k range = (pair : ℕ) → pair < length boxes → pair / PAIRS_FOR_A_RANGE ≡ k → LiesIn range (box_at boxes pair)

-- a range has no cell of a band, which has len cells from `from` on
abbrev pub Misses : ℕ → ℕ → CellRange → Type 0
Misses from len range = (range.last < from) ⊎ (from + len ≤ range.first)

-- the range of a number
abbrev pub range_at : List CellRange → ℕ → CellRange
range_at ranges k = slice_index_or ranges k (record { first = 0; last = 0 })

-- each range has the boxes of its pairs; pairs past the last range have none
abbrev pub AreRangesOf : List (Option CellBox) → List CellRange → Type 0
AreRangesOf boxes ranges = (k : ℕ) → k < length ranges → IsRangeOf boxes k (range_at ranges k)

-- the first pair of a range, or how many pairs there are
abbrev pub range_start : List (Option CellBox) → ℕ → ℕ
range_start boxes k = min (length boxes) (k * PAIRS_FOR_A_RANGE)
