-- Rows of numbers, and a filling of them slot by slot.
use Rattle.std.specs.Prelude.{◌≡◌, ℕ, ◌+◌, ◌-◌, ◌<◌, ◌≤◌, List, [], ◌∷◌, ◌++◌, map, take, drop, length, sum, replicate, slice_index, slice_index_or, slice_set}

-- the rows as filled so far, and how many slots each row has
pub record Filling : Type 0 where
  pub rows : List (List ℕ)
  pub lengths : List ℕ

-- the r-th row
abbrev pub row_at : List (List ℕ) → ℕ → List ℕ
row_at rows r = slice_index_or rows r []

-- the rows, with the value at the end of the r-th
abbrev pub with_value : List (List ℕ) → ℕ → ℕ → List (List ℕ)
with_value rows r value = slice_set rows r (row_at rows r ++ value ∷ [])

-- a list with a change in each of `count` items from the r-th on
abbrev pub with_each_changed : {X : Type 0} → (X → X) → List X → ℕ → ℕ → List X
with_each_changed change xs r count = take r xs ++ (map change (take count (drop r xs)) ++ drop count (drop r xs))

-- the rows, with the value at the end of each of `count` rows from the r-th on
abbrev pub with_value_each : List (List ℕ) → ℕ → ℕ → ℕ → List (List ℕ)
with_value_each rows r count value = with_each_changed (λ row. row ++ value ∷ []) rows r count

-- no row has a value yet
abbrev pub empty_rows : List ℕ → List (List ℕ)
empty_rows lengths = replicate (length lengths) []

-- there is an r-th row, and it has a slot that is not written
abbrev pub HasFreeSlot : Filling → ℕ → Type 0
HasFreeSlot f r = (r < length f.rows) × (length (row_at f.rows r) < slice_index f.lengths r)

-- each of `count` rows from the first on is there, and has a slot that is not written
abbrev pub EachHasFreeSlot : Filling → ℕ → ℕ → Type 0
EachHasFreeSlot f first count = (r : ℕ) → first ≤ r → r < first + count → HasFreeSlot f r

-- how many slots are not written
abbrev pub slots_left : Filling → ℕ
slots_left f = sum f.lengths - sum (map length f.rows)
