-- The rows of bands.
use Rattle.std.specs.Prelude.{◌≡◌, ℕ, ◌+◌, ◌<◌, List, [], length, slice_index_or, Option}
use Rattle.grid_quantiser.specs.declared.axis.Axis.{Axis}
use Rattle.grid_quantiser.specs.declared.boxes.CellBox.{CellBox}
use Rattle.grid_quantiser.specs.Axes.{cells_of}
use Rattle.edge_rows.specs.Rows.{row_at}
use Rattle.source_lists.specs.declared.cuts.Cuts.{Cuts}
use Rattle.source_lists.specs.inside.BandCuts.{band_start, band_end}
use Rattle.source_lists.specs.SourceLists.{sources_among}

-- Rows hold, for each cell of a band of len cells from `from` on, the pairs, of the first n, that lead to it.
pub record AreRowsAmong (axes : List Axis) (boxes : List (Option CellBox)) (from len n : ℕ) (rows : List (List ℕ)) : Type 0 where
  pub one_each : length rows ≡ len
  pub each : (i : ℕ) → i < len → row_at rows i ≡ sources_among axes boxes n (from + i)

-- rows hold all pairs that lead to each cell of a band
abbrev pub AreBandRows : List Axis → List (Option CellBox) → ℕ → ℕ → List (List ℕ) → Type 0
AreBandRows axes boxes from len rows = AreRowsAmong axes boxes from len (length boxes) rows

-- A band has the rows of its cells.
pub record HasBandRows (axes : List Axis) (boxes : List (Option CellBox)) (cuts : Cuts) (k : ℕ) (rows : List (List ℕ)) : Type 0 where
  pub len : ℕ
  pub end : band_start cuts k + len ≡ band_end (cells_of axes) cuts k
  pub rows_are : AreBandRows axes boxes (band_start cuts k) len rows

-- There are rows for each band.
pub record HoldBands (axes : List Axis) (boxes : List (Option CellBox)) (cuts : Cuts) (bands : List (List (List ℕ))) : Type 0 where
  pub one_each : length bands + 1 ≡ length cuts.each.items
  pub each : (k : ℕ) → k < length bands → HasBandRows axes boxes cuts k (slice_index_or bands k [])
