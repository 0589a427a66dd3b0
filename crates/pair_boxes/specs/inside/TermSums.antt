-- The sums of terms.
use Rattle.std.specs.Prelude.{◌≡◌, ℕ, ◌*◌, ◌<◌, List, length, slice_index, slice_index_or, Option, None, Some}
use Rattle.grid_quantiser.specs.declared.boxes.CellBox.{CellBox}

-- the term at an input's slot
abbrev pub term_under : List (Option CellBox) → List ℕ → ℕ → Option CellBox
term_under terms inputs u = slice_index_or terms (slice_index inputs u) None

-- each box is changed
abbrev pub AreChangedBy : (ℕ → Option CellBox → Option CellBox) → List (Option CellBox) → List (Option CellBox) → Type 0
AreChangedBy change old new = (u : ℕ) → u < length old → slice_index_or new u None ≡ change u (slice_index_or old u None)

-- a box on the earlier axes, in a grid of which one of its cells makes so many
abbrev pub enlarged : ℕ → Option CellBox → Option CellBox
enlarged n None = None
enlarged n (Some b) = Some (record { first = b.first * n; last = b.last * n })
