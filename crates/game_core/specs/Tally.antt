-- What solvers of the two games count, said of the solutions alone.
use Rattle.std.specs.Prelude.{◌≡◌, ℕ, suc, ◌+◌, ◌/◌, ◌<◌, ◌≤◌, Bool, true, not, ◌&&◌, ◌==◌, nat_lt, List, map, length, Option, Some, None, is_some, sum_by, count_by}
use Rattle.std.specs.List.{range_with_len}
use Rattle.game_core.specs.declared.game.Row.{Row}
use Rattle.game_core.specs.declared.tally.Tally.{Tally}
use Rattle.game_core.specs.Fallen.{is_obstacle, has_fallen}
use Rattle.game_core.specs.Game.{Game, mark_of, pairs_of, successors_at}
use Rattle.game_core.specs.Solution.{row_of, greatest, greatest_rank}

-- the numbers of all pairs of a game
abbrev pub all_pairs : Game → List ℕ
all_pairs g = range_with_len 0 (pairs_of g)

-- how many successors of a pair have a row
abbrev pub ranked_in : Game → List (Option Row) → ℕ → ℕ
ranked_in g rows pair = count_by (λ s. is_some (row_of rows s)) (successors_at g pair)

-- a pair is enabled, and all its successors have rows
abbrev pub is_resolved : Game → List (Option Row) → ℕ → Bool
is_resolved g rows pair = nat_lt 0 (length (successors_at g pair)) && (ranked_in g rows pair == length (successors_at g pair))

-- the rank that a resolved pair gives its cell
abbrev pub rank_by : Game → List (Option Row) → ℕ → ℕ
rank_by g rows pair = suc (greatest_rank rows (successors_at g pair))

-- how many rounds there are up to that of a row
abbrev pub rounds_to : Option Row → ℕ
rounds_to None = 0
rounds_to (Some row) = suc row.rank

-- The tally of a reach solution: the edges into ranked cells, the resolved pairs, and the rounds up to the greatest rank.
pub record IsReachTally (g : Game) (rows : List (Option Row)) (tally : Tally) : Type 0 where
  pub cuts : tally.cuts ≡ sum_by (ranked_in g rows) (all_pairs g)
  pub offers : tally.offers ≡ count_by (is_resolved g rows) (all_pairs g)
  pub rounds : tally.rounds ≡ greatest (map rounds_to rows)

-- how many successors of a pair have no row
abbrev pub unkept_in : Game → List (Option Row) → ℕ → ℕ
unkept_in g rows pair = count_by (λ s. not (is_some (row_of rows s))) (successors_at g pair)

-- the cell of a pair is no obstacle, and a successor has no row
abbrev pub is_lost : Game → List (Option Row) → ℕ → Bool
is_lost g rows pair = not (is_obstacle (mark_of g (pair / g.inputs))) && nat_lt 0 (unkept_in g rows pair)

-- each cell without a row fell in a round before n
abbrev pub FellBefore : Game → List (Option Row) → ℕ → Type 0
FellBefore g rows n = (c : ℕ) → c < g.cells → row_of rows c ≡ None → (d : ℕ) × (d < n) × (has_fallen g d c ≡ true)

-- The tally of a keep solution: the edges into cells that aren't kept and the lost pairs, and the rounds in which a cell falls.
pub record IsKeepTally (g : Game) (rows : List (Option Row)) (tally : Tally) : Type 0 where
  pub cuts : tally.cuts ≡ sum_by (unkept_in g rows) (all_pairs g) + count_by (is_lost g rows) (all_pairs g)
  pub offers : tally.offers ≡ 0
  pub all_fell : FellBefore g rows tally.rounds
  pub no_sooner : (n : ℕ) → FellBefore g rows n → tally.rounds ≤ n
