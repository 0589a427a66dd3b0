-- Where bands of cells begin.
use Rattle.std.specs.Prelude.{◌≡◌, ℕ, ◌+◌, ◌-◌, ◌*◌, ◌<◌, ◌≤◌, min, List, length, slice_index}
use Rattle.std.specs.Int.{div_ceil}
use Rattle.grid_quantiser.specs.declared.boxes.CellBox.{CellBox}
use Rattle.source_lists.specs.declared.cuts.Cuts.{Cuts}
use Rattle.source_lists.specs.declared.cuts.Group.{Group}
use Rattle.source_lists.specs.SourceLists.{group_at}

-- Numbers rise from 0 to a last one.
pub record RiseTo (end : ℕ) (cuts : List ℕ) : Type 0 where
  pub some : 1 ≤ length cuts
  pub first : slice_index cuts 0 ≡ 0
  pub rising : (k : ℕ) → k + 1 < length cuts → slice_index cuts k < slice_index cuts (k + 1)
  pub last : slice_index cuts (length cuts - 1) ≡ end

-- Groups of so many cells each, the last of what is left, are parted into bands.
pub record AreCutsOf (cells : ℕ) (cuts : Cuts) : Type 0 where
  pub some_size : 0 < cuts.size
  pub narrow : cuts.size ≤ cells
  pub parted : RiseTo (div_ceil cells cuts.size) cuts.each.items

-- the first cell of a band
abbrev pub band_start : Cuts → ℕ → ℕ
band_start cuts k = slice_index cuts.each.items k * cuts.size

-- the cell after the last of a band
abbrev pub band_end : ℕ → Cuts → ℕ → ℕ
band_end cells cuts k = min (band_start cuts (k + 1)) cells

-- A group lies in its band.
pub record IsGroupIn (cuts : Cuts) (g : ℕ) (group : Group) : Type 0 where
  pub band : group.band + 1 < length cuts.each.items
  pub first : slice_index cuts.each.items group.band ≤ g
  pub last : g < slice_index cuts.each.items (group.band + 1)
  pub from : group.from ≡ band_start cuts group.band

-- The first groups, up to an end, lie each in its band.
pub record AreGroupsTo (end : ℕ) (cuts : Cuts) (groups : List Group) : Type 0 where
  pub one_each : length groups ≡ end
  pub each : (g : ℕ) → g < end → IsGroupIn cuts g (group_at groups g)

-- The load of a box is that of a group of cells.
pub record HasLoadIn (fans : List ℕ) (cells : ℕ) (b : CellBox) : Type 0 where
  pub ordered : b.first ≤ b.last
  pub counted : b.last - b.first < length fans
  pub within : b.last < cells
