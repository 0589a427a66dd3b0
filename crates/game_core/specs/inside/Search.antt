-- What stands at each moment of a search backwards from the goals. No public clause names any of it.
use Rattle.std.specs.Prelude.{◌≡◌, ◌≢◌, ℕ, zero, suc, ◌-◌, ◌/◌, ◌%◌, ◌<◌, ◌≤◌, Bool, true, not, ◌&&◌, ◌==◌, nat_lt, if◌then◌else◌, List, [], ◌∷◌, ◌++◌, map, length, take, replicate, Option, Some, None, is_some, slice_index, slice_index_or, slice_set, count_by, AllPairs}
use Rattle.std.specs.List.{All, Contains, list_any}
use Rattle.std.specs.List.Sorted.{IsNonDecreasingBy}
use Rattle.game_core.specs.declared.game.Mark.{Mark}
use Rattle.game_core.specs.declared.game.Mark.TheVariants.{Goal, Obstacle, Plain}
use Rattle.game_core.specs.declared.game.Row.{Row}
use Rattle.game_core.specs.Game.{Game, mark_of, pair_of, pairs_of, successors_at, successors_of, IsEnabled}
use Rattle.game_core.specs.Solution.{row_of, rank_at, HasRowBelow}

-- How far a search has come: for each pair the successors that are still to be taken, the rows, and the
-- cells that have one, in the order of their ranks.
pub record SearchProgress : Type 0 where
  pub left : List ℕ
  pub rows : List (Option Row)
  pub queue : List ℕ

-- There is a position for each cell, and as many are used as there are rows.
pub record HasCapacity (rows : List (Option Row)) (order : List ℕ) (found : ℕ) : Type 0 where
  pub one_position_each : length order ≡ length rows
  pub counted : found ≡ count_by is_some rows

-- a search in which nothing is taken yet, and no cell has a row
abbrev pub search_at_first : Game → SearchProgress
search_at_first g = record { left = map length g.successors; rows = replicate g.cells None; queue = [] }

-- a cell without a row gets one
abbrev pub with_row : ℕ → Row → SearchProgress → SearchProgress
with_row c row p = record { left = p.left; rows = slice_set p.rows c (Some row); queue = p.queue ++ c ∷ [] }

-- of two inputs at one rank the lesser stands
abbrev pub better : Row → Row → Row
better old new = if (old.rank == new.rank) && nat_lt new.input old.input then new else old

-- a row is offered to a cell, by the row that it has
abbrev pub with_offer_to : Option Row → ℕ → Row → SearchProgress → SearchProgress
with_offer_to None c row p = with_row c row p
with_offer_to (Some old) c row p = record { left = p.left; rows = slice_set p.rows c (Some (better old row)); queue = p.queue }

-- the progress after a row is offered to a cell
abbrev pub with_offer : ℕ → Row → SearchProgress → SearchProgress
with_offer c row p = with_offer_to (row_of p.rows c) c row p

-- the same, by the cell's mark: a plain cell alone takes it
abbrev pub with_offer_at : Mark → ℕ → Row → SearchProgress → SearchProgress
with_offer_at Goal c row p = p
with_offer_at Obstacle c row p = p
with_offer_at Plain c row p = with_offer c row p

-- the last successor of a pair is taken
abbrev pub with_pair_done : Game → ℕ → ℕ → SearchProgress → SearchProgress
with_pair_done g pair rank p = with_offer_at (mark_of g (pair / g.inputs)) (pair / g.inputs) (record { rank = rank; input = pair % g.inputs }) p

-- one less is left of a pair
abbrev pub with_one_less : ℕ → SearchProgress → SearchProgress
with_one_less pair p = record { left = slice_set p.left pair (slice_index p.left pair - 1); rows = p.rows; queue = p.queue }

-- a successor of a pair is taken
abbrev pub after_cut : Game → ℕ → ℕ → SearchProgress → SearchProgress
after_cut g pair rank p = if slice_index p.left pair - 1 == 0 then with_pair_done g pair rank (with_one_less pair p) else with_one_less pair p

-- a row is true: rank 0 stands at a goal, and a higher one leads to lower ones
abbrev pub IsSoundRow : Game → List (Option Row) → ℕ → ℕ → ℕ → Type 0
IsSoundRow g rows c zero u = (mark_of g c ≡ Goal) × (u ≡ 0)
IsSoundRow g rows c (suc k) u = (mark_of g c ≢ Obstacle) × IsEnabled g c u × All (HasRowBelow rows (suc k)) (successors_of g c u)

-- a cell has a row of a rank of at most m, and where it is m its input is at most v
pub record HasRowAtMost (rows : List (Option Row)) (m v c : ℕ) : Type 0 where
  pub row : Row
  pub is : row_of rows c ≡ Some row
  pub within : row.rank ≤ m
  pub least : row.rank ≡ m → row.input ≤ v

-- a goal has rank 0 and input 0
abbrev pub IsGoalRow : List (Option Row) → ℕ → Type 0
IsGoalRow rows c = row_of rows c ≡ Some (record { rank = 0; input = 0 })

-- Rows that agree with each other wherever one looks.
pub record IsConsistent (g : Game) (rows : List (Option Row)) : Type 0 where
  pub one_each : length rows ≡ g.cells
  pub goals : (c : ℕ) → c < g.cells → mark_of g c ≡ Goal → IsGoalRow rows c
  pub sound : (c : ℕ) (row : Row) → row_of rows c ≡ Some row → IsSoundRow g rows c row.rank row.input
  pub best : (c v m : ℕ) → mark_of g c ≡ Plain → IsEnabled g c v → All (HasRowBelow rows m) (successors_of g c v) → HasRowAtMost rows m v c

-- The queue has each cell with a row once, in the order of their ranks. From head on they are to be taken,
-- and no rank is above top.
pub record IsQueue (head top : ℕ) (rows : List (Option Row)) (queue : List ℕ) : Type 0 where
  pub has_row : (s : ℕ) → Contains queue s → (row : Row) × (row_of rows s ≡ Some row)
  pub has_position : (s : ℕ) (row : Row) → row_of rows s ≡ Some row → Contains queue s
  pub once : AllPairs (λ a b. a ≢ b) queue
  pub size : length queue ≡ count_by is_some rows
  pub rising : IsNonDecreasingBy (rank_at rows) queue
  pub short : (i d : ℕ) → i < length queue → rank_at rows (slice_index_or queue i d) ≤ i
  pub rest : (i d : ℕ) → head ≤ i → i < length queue → top ≤ suc (rank_at rows (slice_index_or queue i d))
  pub highest : (s : ℕ) (row : Row) → row_of rows s ≡ Some row → row.rank ≤ top

-- what is left of each pair is the number of its successors that are not cut
pub record IsCounted (g : Game) (cut : ℕ → ℕ → Bool) (left : List ℕ) : Type 0 where
  pub one_each : length left ≡ pairs_of g
  pub counts : (pair : ℕ) → pair < pairs_of g → slice_index left pair ≡ count_by (λ s. not (cut pair s)) (successors_at g pair)

-- the rows are right as far as the cut successors show
pub record IsTold (g : Game) (cut : ℕ → ℕ → Bool) (top : ℕ) (rows : List (Option Row)) : Type 0 where
  pub one_each : length rows ≡ g.cells
  pub goals : (c : ℕ) → c < g.cells → mark_of g c ≡ Goal → IsGoalRow rows c
  pub lower : (pair s : ℕ) → pair < pairs_of g → Contains (successors_at g pair) s → cut pair s ≡ true → HasRowBelow rows top s
  pub sound : (c : ℕ) (row : Row) → row_of rows c ≡ Some row → IsSoundRow g rows c row.rank row.input
  pub best : (c v m : ℕ) → c < g.cells → mark_of g c ≡ Plain → IsEnabled g c v → All (λ s. cut (pair_of g c v) s ≡ true) (successors_of g c v) → All (HasRowBelow rows m) (successors_of g c v) → HasRowAtMost rows m v c

-- a search is in order: its queue, and for the successors that are cut its counts and its rows
pub record IsSearch (g : Game) (cut : ℕ → ℕ → Bool) (head top : ℕ) (p : SearchProgress) : Type 0 where
  pub queue : IsQueue head top p.rows p.queue
  pub counted : IsCounted g cut p.left
  pub told : IsTold g cut top p.rows

-- the cells taken so far are cut from each pair
abbrev pub is_taken : ℕ → List ℕ → ℕ → ℕ → Bool
is_taken head queue pair s = list_any (◌==◌ s) (take head queue)

-- the first cells of the queue are taken
pub record IsSearched (g : Game) (head : ℕ) (p : SearchProgress) : Type 0 where
  pub top : ℕ
  pub search : IsSearch g (is_taken head p.queue) head top p

-- The goals below a bound have their rows, and no other cell has one.
pub record IsGathered (g : Game) (bound : ℕ) (p : SearchProgress) : Type 0 where
  pub left : p.left ≡ map length g.successors
  pub one_each : length p.rows ≡ g.cells
  pub queue : IsQueue 0 0 p.rows p.queue
  pub goals : (c : ℕ) → c < bound → mark_of g c ≡ Goal → IsGoalRow p.rows c
  pub only : (c : ℕ) (row : Row) → row_of p.rows c ≡ Some row → (c < bound) × (mark_of g c ≡ Goal) × (row ≡ record { rank = 0; input = 0 })
