-- Rows by words: a word stands for a stretch of cells with one row or with none, and holds its first cell and the row.
use Rattle.std.specs.Prelude.{◌≡◌, ℕ, zero, suc, ◌-◌, ◌/◌, ◌%◌, ◌<◌, ◌≤◌, nat_le, List, map, length, slice_index, Option, Some, None}
use Rattle.std.specs.List.{count_by, range_with_len}
use Rattle.std.specs.List.Sorted.{IsNonDecreasingBy}
use Rattle.game_core.specs.declared.game.Row.{Row}
use Rattle.game_core.specs.Solution.{row_of}
use Rattle.base.specs.declared.limits.TheConstants.{CELLS_LIMIT, VECTORS_LIMIT}
use Rattle.text_control.specs.declared.row_words.TheConstants.{ROW_NUMBERS}

-- A row that has a number: its rank is at most the number of cells.
pub record FitsWord (row : Row) : Type 0 where
  pub rank : row.rank ≤ CELLS_LIMIT
  pub input : row.input < VECTORS_LIMIT

-- the row with a number; 0 is no row
abbrev pub row_numbered : ℕ → Option Row
row_numbered zero = None
row_numbered (suc n) = Some (record { rank = n / VECTORS_LIMIT; input = n % VECTORS_LIMIT })

-- the cell of a word
abbrev pub cell_in : ℕ → ℕ
cell_in word = word / ROW_NUMBERS

-- the row of a word
abbrev pub row_in : ℕ → Option Row
row_in word = row_numbered (word % ROW_NUMBERS)

-- how many of the words have this cell or one before it
abbrev pub words_up_to : List ℕ → ℕ → ℕ
words_up_to words c = count_by (λ word. nat_le (cell_in word) c) words

-- the row at a cell is that of the last such word
abbrev pub row_told : List ℕ → ℕ → Option Row
row_told words c = row_in (slice_index words (words_up_to words c - 1))

-- the rows of so many cells
abbrev pub decoded_rows : List ℕ → ℕ → List (Option Row)
decoded_rows words cells = map (row_told words) (range_with_len 0 cells)

-- The words stand in the order of their cells, and the first of them has the first cell. There are no more than cells.
pub record AreWords (words : List ℕ) (cells : ℕ) : Type 0 where
  pub rising : IsNonDecreasingBy cell_in words
  pub some : 0 < cells → 0 < length words
  pub first : cell_in (slice_index words 0) ≡ 0
  pub few : length words ≤ cells

-- a cell has the row of the cell before it, or none as that one
abbrev pub GoesOn : List (Option Row) → ℕ → Type 0
GoesOn rows c = (0 < c) × (row_of rows c ≡ row_of rows (c - 1))
