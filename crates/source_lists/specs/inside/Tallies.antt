-- How often numbers occur among cells, and where pairs are put for them.
use Rattle.std.specs.Prelude.{◌≡◌, ℕ, ◌+◌, ◌-◌, ◌^◌, ◌<◌, ◌≤◌, ◌&&◌, leb, ltb, List, ◌++◌, map, length, take, replicate, slice_index, sum, Option}
use Rattle.std.specs.List.{filter}
use Rattle.grid_quantiser.specs.declared.axis.Axis.{Axis}
use Rattle.grid_quantiser.specs.declared.boxes.CellBox.{CellBox}
use Rattle.game_core.specs.Counts.{times}
use Rattle.edge_rows.specs.Rows.{Filling, row_at}
use Rattle.pair_box.specs.PlantBoxes.{box_at}
use Rattle.successor_box.specs.SuccessorBoxes.{cells_in}
use Rattle.plant_game.specs.BoxGame.{edges_of}
use Rattle.source_lists.specs.SourceLists.{sources_among}

-- Each cell's count has grown by how often it stands among cells.
pub record AreCounted (before after cells : List ℕ) : Type 0 where
  pub long : length after ≡ length before
  pub each : (c : ℕ) → slice_index after c ≡ slice_index before c + times c cells
  pub total : sum after ≡ sum before + length cells

-- A pair was put at the end of each cell's row, as often as the cell stands among cells.
pub record ArePut (pair : ℕ) (before after : Filling) (cells : List ℕ) : Type 0 where
  pub long : length after.rows ≡ length before.rows
  pub lengths : after.lengths ≡ before.lengths
  pub each : (c : ℕ) → c < length before.rows → row_at after.rows c ≡ row_at before.rows c ++ replicate (times c cells) pair

-- Each cell's count stays below 2^32 where the cells are counted too.
abbrev pub CountsFit : List ℕ → List ℕ → Type 0
CountsFit counts cells = (c : ℕ) → slice_index counts c + times c cells < 2 ^ 32

-- There is room for a pair at each of the cells.
abbrev pub HasCapacityFor : Filling → List ℕ → Type 0
HasCapacityFor f cells = (c : ℕ) → c < length f.rows → length (row_at f.rows c) + times c cells ≤ slice_index f.lengths c

-- the slots in a band, which has len cells from `from` on, of the cells that lie in it
abbrev pub slots_in : ℕ → ℕ → List ℕ → List ℕ
slots_in from len cells = map (λ c. c - from) (filter (λ c. leb from c && ltb c (from + len)) cells)

-- the slots in a band of the cells of a pair's box
abbrev pub slots_of : List Axis → List (Option CellBox) → ℕ → ℕ → ℕ → List ℕ
slots_of axes boxes from len pair = slots_in from len (cells_in axes (box_at boxes pair))

-- The count of each cell of a band is how many of the first n pairs lead to it.
pub record AreCountsAmong (axes : List Axis) (boxes : List (Option CellBox)) (from len n : ℕ) (counts : List ℕ) : Type 0 where
  pub one_each : length counts ≡ len
  pub each : (i : ℕ) → i < len → slice_index counts i ≡ length (sources_among axes boxes n (from + i))

-- The first n pairs are counted, and the counts add up to no more than their edges.
pub record CountsSoFar (axes : List Axis) (boxes : List (Option CellBox)) (from len n : ℕ) (counts : List ℕ) : Type 0 where
  pub counted : AreCountsAmong axes boxes from len n counts
  pub total : sum counts ≤ edges_of axes (take n boxes)
