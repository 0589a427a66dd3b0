-- Where the word of a cell stands. No public clause names this.
use Rattle.std.specs.Prelude.{ℕ, ◌+◌, ◌*◌, ◌/◌, ◌<◌, ◌≤◌, List, length, slice_index}
use Rattle.text_control.specs.inside.RowWords.{cell_in}
use Rattle.text_control.specs.declared.word_positions.TheConstants.{CELLS_EACH}

-- The last word with a cell or one before it stands at this position.
pub record IsLastUpTo (words : List ℕ) (c position : ℕ) : Type 0 where
  pub within : position < length words
  pub before : cell_in (slice_index words position) ≤ c
  pub after : (k : ℕ) → position < k → k < length words → c < cell_in (slice_index words k)

-- It stands among so many from a position on.
pub record IsNarrowed (words : List ℕ) (c position size : ℕ) : Type 0 where
  pub some : 0 < size
  pub within : position + size ≤ length words
  pub before : cell_in (slice_index words position) ≤ c
  pub after : (k : ℕ) → position + size ≤ k → k < length words → c < cell_in (slice_index words k)

-- The positions of the words of every 64th cell, the last of them past the cells.
pub record ArePositions (words : List ℕ) (cells : ℕ) (positions : List ℕ) : Type 0 where
  pub enough : (c : ℕ) → c < cells → c / CELLS_EACH + 1 < length positions
  pub each : (b : ℕ) → b < length positions → IsLastUpTo words (b * CELLS_EACH) (slice_index positions b)
