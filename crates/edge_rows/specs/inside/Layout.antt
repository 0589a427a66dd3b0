-- How rows lie in one block: row after row, in each the values and then the slots that are not written.
use Rattle.std.specs.Prelude.{ℕ, ◌+◌, ◌-◌, ◌≤◌, List, [], ◌∷◌, ◌++◌, map, length, take, drop, sum, replicate, Option, Some, None}
use Rattle.std.specs.List.{AllZip}
use Rattle.raw_slots.specs.Slots.{values}
use Rattle.base.specs.declared.limits.TheConstants.{CELLS_LIMIT, EDGES_LIMIT}

-- rows of these lengths, one after another
abbrev pub laid : List (List ℕ) → List ℕ → List (Option ℕ)
laid [] lengths = []
laid (xs ∷ rows) [] = []
laid (xs ∷ rows) (n ∷ lengths) = map Some xs ++ (replicate (n - length xs) None ++ laid rows lengths)

-- where each row starts, and at last where they end
abbrev pub starts_from : ℕ → List ℕ → List ℕ
starts_from at [] = at ∷ []
starts_from at (n ∷ lengths) = at ∷ starts_from (at + n) lengths

-- the first slot of each row that is not written
abbrev pub ends_from : ℕ → List (List ℕ) → List ℕ → List ℕ
ends_from at [] lengths = []
ends_from at (xs ∷ rows) [] = []
ends_from at (xs ∷ rows) (n ∷ lengths) = (at + length xs) ∷ ends_from (at + n) rows lengths

-- the lengths of rows that start there
abbrev pub gaps : List ℕ → List ℕ
gaps [] = []
gaps (start ∷ []) = []
gaps (start ∷ next ∷ starts) = (next - start) ∷ gaps (next ∷ starts)

-- the rows that lie from these starts up to these ends
abbrev pub rows_between : List (Option ℕ) → List ℕ → List ℕ → List (List ℕ)
rows_between slots [] ends = []
rows_between slots (start ∷ starts) [] = []
rows_between slots (start ∷ starts) (end ∷ ends) = values (take (end - start) (drop start slots)) ∷ rows_between slots starts ends

-- no row has more values than slots, and their counts are few enough for `u32`
pub record IsWithin (rows : List (List ℕ)) (lengths : List ℕ) : Type 0 where
  pub fits : AllZip (λ xs n. length xs ≤ n) rows lengths
  pub small : (length lengths ≤ CELLS_LIMIT) × (sum lengths ≤ EDGES_LIMIT)
