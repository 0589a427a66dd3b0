-- What stands at each moment as the cells that can't be kept fall one by one.
use Rattle.std.specs.Prelude.{◌≡◌, ◌≢◌, ℕ, ◌-◌, ◌/◌, ◌<◌, ◌≤◌, Bool, true, false, not, ◌&&◌, ◌==◌, nat_lt, if◌then◌else◌, List, [], ◌∷◌, ◌++◌, map, length, Option, Some, None, slice_index, slice_index_or, slice_set, count_by, AllPairs}
use Rattle.std.specs.List.{Contains, range_with_len}
use Rattle.game_core.specs.declared.game.Row.{Row}
use Rattle.game_core.specs.Game.{Game, mark_of, pair_of, pairs_of, successors_at}
use Rattle.game_core.specs.Fallen.{is_obstacle, Falls}
use Rattle.game_core.specs.Tally.{all_pairs}

-- How far the cells have fallen: for each pair whether it may be applied yet, for each cell how many of its
-- pairs may, and the cells that have none left, in the order in which they fell.
pub record FallingProgress : Type 0 where
  pub safe : List Bool
  pub left : List ℕ
  pub queue : List ℕ

-- There is a position for each cell.
pub record HasPositions (left order : List ℕ) (found : ℕ) : Type 0 where
  pub one_position_each : length order ≡ length left
  pub found_bound : found ≤ length order

-- a pair whose cell is no obstacle and whose input is enabled
abbrev pub is_live : Game → ℕ → Bool
is_live g pair = nat_lt 0 (length (successors_at g pair)) && not (is_obstacle (mark_of g (pair / g.inputs)))

-- the entry of a pair says that it is safe
abbrev pub is_safe : List Bool → ℕ → Bool
is_safe safe pair = slice_index_or safe pair false

-- how many pairs of a cell are safe
abbrev pub safe_pairs : Game → List Bool → ℕ → ℕ
safe_pairs g safe c = count_by (λ u. is_safe safe (pair_of g c u)) (range_with_len 0 g.inputs)

-- how many pairs of each cell are safe
abbrev pub safe_counts : Game → List Bool → List ℕ
safe_counts g safe = map (safe_pairs g safe) (range_with_len 0 g.cells)

-- which pairs are safe before any cell has fallen: the live ones
abbrev pub safe_at_first : Game → List Bool
safe_at_first g = map (is_live g) (all_pairs g)

-- the progress before any cell has fallen, with each live pair safe
abbrev pub falling_at_first : Game → FallingProgress
falling_at_first g = record { safe = safe_at_first g; left = safe_counts g (safe_at_first g); queue = [] }

-- a cell falls
abbrev pub with_fall : ℕ → FallingProgress → FallingProgress
with_fall c p = record { safe = p.safe; left = p.left; queue = p.queue ++ c ∷ [] }

-- a safe pair of a cell closes
abbrev pub without_pair : ℕ → ℕ → FallingProgress → FallingProgress
without_pair pair c p = record { safe = slice_set p.safe pair false; left = slice_set p.left c (slice_index p.left c - 1); queue = p.queue }

-- a cell without a safe pair falls
abbrev pub after_check : ℕ → FallingProgress → FallingProgress
after_check c p = if slice_index p.left c == 0 then with_fall c p else p

-- a pair may lead to a fallen cell
abbrev pub after_loss : Game → ℕ → FallingProgress → FallingProgress
after_loss g pair p = if is_safe p.safe pair then after_check (pair / g.inputs) (without_pair pair (pair / g.inputs) p) else p

-- The safe pairs, and how many each cell has. A live pair that is safe no more may lead to a fallen cell.
pub record AreSafe (g : Game) (p : FallingProgress) : Type 0 where
  pub one_test_each : length p.safe ≡ pairs_of g
  pub one_number_each : length p.left ≡ g.cells
  pub live : (pair : ℕ) → pair < pairs_of g → is_safe p.safe pair ≡ true → is_live g pair ≡ true
  pub closed : (pair : ℕ) → pair < pairs_of g → is_live g pair ≡ true → is_safe p.safe pair ≡ false → (s : ℕ) × Contains (successors_at g pair) s × Contains p.queue s
  pub counted : (c : ℕ) → c < g.cells → slice_index p.left c ≡ safe_pairs g p.safe c

-- The queue has each cell below the bound without a safe pair once, and each of them falls.
pub record AreFallenBelow (g : Game) (bound : ℕ) (p : FallingProgress) : Type 0 where
  pub queued : (c : ℕ) → c < bound → slice_index p.left c ≡ 0 → Contains p.queue c
  pub empty : (c : ℕ) → Contains p.queue c → (c < bound) × (slice_index p.left c ≡ 0)
  pub once : AllPairs (λ a b. a ≢ b) p.queue
  pub falls : (c : ℕ) → Contains p.queue c → Falls g c

-- The cells below the bound are looked at, and the first cells of the queue are taken: no safe pair leads to one of these.
pub record IsFalling (g : Game) (bound head : ℕ) (p : FallingProgress) : Type 0 where
  pub safe : AreSafe g p
  pub fallen : AreFallenBelow g bound p
  pub reached : head ≤ length p.queue
  pub taken : (i pair : ℕ) → i < head → pair < pairs_of g → is_safe p.safe pair ≡ true → Contains (successors_at g pair) (slice_index p.queue i) → ⊥

-- the row of the least safe input of a cell
abbrev pub IsFirstSafe : Game → List Bool → ℕ → Option Row → Type 0
IsFirstSafe g safe c None = (u : ℕ) → u < g.inputs → is_safe safe (pair_of g c u) ≡ false
IsFirstSafe g safe c (Some row) =
    (row.rank ≡ 0) × (row.input < g.inputs) × (is_safe safe (pair_of g c row.input) ≡ true) × ((u : ℕ) → u < row.input → is_safe safe (pair_of g c u) ≡ false)

-- one such row for each cell
pub record AreFirstSafe (g : Game) (safe : List Bool) (rows : List (Option Row)) : Type 0 where
  pub one_each : length rows ≡ g.cells
  pub each : (c : ℕ) → c < g.cells → IsFirstSafe g safe c (slice_index_or rows c None)
