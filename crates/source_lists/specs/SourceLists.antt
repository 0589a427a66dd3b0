-- The pairs that lead to each cell, in bands of cells.
use Rattle.std.specs.Prelude.{◌≡◌, ℕ, ◌-◌, ◌/◌, ◌<◌, ◌≤◌, Bool, ◌==◌, List, [], length, slice_index_or, Option}
use Rattle.std.specs.List.{list_any, filter, range_with_len}
use Rattle.grid_quantiser.specs.declared.axis.Axis.{Axis}
use Rattle.grid_quantiser.specs.declared.boxes.CellBox.{CellBox}
use Rattle.grid_quantiser.specs.Axes.{cells_of}
use Rattle.edge_rows.specs.Rows.{row_at}
use Rattle.successor_box.specs.SuccessorBoxes.{cells_in}
use Rattle.pair_box.specs.PlantBoxes.{box_at}
use Rattle.source_lists.specs.declared.cuts.Group.{Group}
use Rattle.source_lists.specs.declared.sources.Sources.{Sources}

-- whether the box of a pair has a cell
abbrev pub leads_to : List Axis → List (Option CellBox) → ℕ → ℕ → Bool
leads_to axes boxes c pair = list_any (◌==◌ c) (cells_in axes (box_at boxes pair))

-- the pairs, of the first n, whose boxes have a cell, in rising order
abbrev pub sources_among : List Axis → List (Option CellBox) → ℕ → ℕ → List ℕ
sources_among axes boxes n c = filter (leads_to axes boxes c) (range_with_len 0 n)

-- the band of a group
abbrev pub group_at : List Group → ℕ → Group
group_at groups g = slice_index_or groups g (record { band = 0; from = 0 })

-- the rows of the band of a cell, where groups have `size` cells each
abbrev pub band_of : ℕ → List Group → List (List (List ℕ)) → ℕ → List (List ℕ)
band_of size groups bands c = slice_index_or bands (group_at groups (c / size)).band []

-- where a cell is in its band
abbrev pub slot_in_band : ℕ → List Group → ℕ → ℕ
slot_in_band size groups c = c - (group_at groups (c / size)).from

-- A cell lies in a group, and the group in a band that has a row for the cell.
pub record HasRow (size : ℕ) (groups : List Group) (bands : List (List (List ℕ))) (c : ℕ) : Type 0 where
  pub some_size : 0 < size
  pub group : c / size < length groups
  pub from : (group_at groups (c / size)).from ≤ c
  pub band : (group_at groups (c / size)).band < length bands
  pub slot : slot_in_band size groups c < length (band_of size groups bands c)

-- Bands hold for each cell the pairs that lead to it.
pub record AreSourceBands (axes : List Axis) (boxes : List (Option CellBox)) (size : ℕ) (groups : List Group) (bands : List (List (List ℕ))) : Type 0 where
  pub inside : (c : ℕ) → c < cells_of axes → HasRow size groups bands c
  pub each : (c : ℕ) → c < cells_of axes → row_at (band_of size groups bands c) (slot_in_band size groups c) ≡ sources_among axes boxes (length boxes) c

-- these hold for each cell the pairs that lead to it
abbrev pub AreSourcesOf : List Axis → List (Option CellBox) → Sources → Type 0
AreSourcesOf axes boxes s = AreSourceBands axes boxes s.size s.groups.items s.bands.items

-- there is a row for a cell
abbrev pub HasRowFor : Sources → ℕ → Type 0
HasRowFor s c = HasRow s.size s.groups.items s.bands.items c

-- the row of a cell
abbrev pub row_for : Sources → ℕ → List ℕ
row_for s c = row_at (band_of s.size s.groups.items s.bands.items c) (slot_in_band s.size s.groups.items c)
