-- What stands between the rounds of a keep game, and what a round adds.
use Rattle.std.specs.Prelude.{◌≡◌, ◌≢◌, ℕ, zero, suc, ◌+◌, ◌-◌, ◌/◌, ◌<◌, ◌≤◌, ◌⊎◌, Bool, true, false, not, ◌&&◌, ◌==◌, nat_lt, cond, List, [], filter, length, sum_by, count_by, Option, Some, None, All}
use Rattle.std.specs.List.{range_with_len}
use Rattle.board_rounds.specs.Solving.{AreTold}
use Rattle.board_rounds.specs.Crew.{cuts_in, offers_in, logged_cells, counters_of, cut_to}
use Rattle.game_core.specs.Counts.{one_if, times}
use Rattle.cell_counters.specs.declared.account.Cut.{Cut}
use Rattle.cell_counters.specs.declared.account.Account.{Account}
use Rattle.cell_counters.specs.Accounts.{IsLawfulCounter, cut_count, all_logs}
use Rattle.game_core.specs.declared.game.Mark.TheVariants.{Obstacle}
use Rattle.game_core.specs.declared.game.Row.{Row}
use Rattle.game_core.specs.Fallen.{is_obstacle, has_fallen}
use Rattle.game_core.specs.Game.{Game, mark_of, pair_of, pairs_of, successors_at}
use Rattle.safety_game.specs.KeepBoards.{pairs_at, enabled_at}

-- a cell fell in a round before d
abbrev pub fell_before : Game → ℕ → ℕ → Bool
fell_before g zero c = false
fell_before g (suc d) c = has_fallen g d c

-- how many successors of a pair fell in a round before d
abbrev pub gone_in : Game → ℕ → ℕ → ℕ
gone_in g d pair = count_by (fell_before g d) (successors_at g pair)

-- the cell of a pair is no obstacle, and a successor fell in a round before d
abbrev pub is_cell_cut : Game → ℕ → ℕ → Bool
is_cell_cut g d pair = not (is_obstacle (mark_of g (pair / g.inputs))) && nat_lt 0 (gone_in g d pair)

-- how many pairs of a cell are lost
abbrev pub cell_cuts_at : Game → ℕ → ℕ → ℕ
cell_cuts_at g d c = count_by (is_cell_cut g d) (pairs_at g c)

-- lawful for each pair, which begins with its successors, and for each cell, which begins with its enabled inputs
pub record IsLawfulFor (g : Game) (accounts : List Account) : Type 0 where
  pub pairs : (pair : ℕ) → pair < pairs_of g → (now : ℕ) × IsLawfulCounter accounts pair (length (successors_at g pair)) now
  pub cells : (c : ℕ) → c < g.cells → (now : ℕ) × IsLawfulCounter accounts (pairs_of g + c) (enabled_at g c) now

-- before round d: the cells that fell before are taken, and the list has those that fall in this round
pub record AreFalling (g : Game) (d : ℕ) (list : List ℕ) (accounts : List Account) : Type 0 where
  pub lawful : IsLawfulFor g accounts
  pub cuts : (pair : ℕ) → pair < pairs_of g → cut_count pair accounts ≡ gone_in g d pair
  pub cell_cuts : (c : ℕ) → c < g.cells → cut_count (pairs_of g + c) accounts ≡ cell_cuts_at g d c
  pub no_other_cut : All (λ (c : Cut). c.counter < pairs_of g + g.cells) (cuts_in accounts)
  pub no_offer : offers_in accounts ≡ []
  -- logged are the cells that fell after round 0
  pub came : (c : ℕ) → c < g.cells → times c (logged_cells (all_logs accounts)) + one_if (has_fallen g 0 c) ≡ one_if (has_fallen g d c)
  pub logged : All (λ c. c < g.cells) (logged_cells (all_logs accounts))
  pub cells : (c : ℕ) → c < g.cells → times c list + one_if (fell_before g d c) ≡ one_if (has_fallen g d c)
  pub within : All (λ c. c < g.cells) list

-- the list of the first round
abbrev pub first_fallen : Game → List ℕ
first_fallen g = filter (has_fallen g 0) (range_with_len 0 g.cells)

-- a cell fell in the round before this one, and not before that, where there is one before
abbrev pub IsFull : Game → ℕ → Type 0
IsFull g d = (d ≡ 0) ⊎ ((k c : ℕ) × (d ≡ suc k) × (c < g.cells) × (has_fallen g k c ≡ true) × (fell_before g k c ≡ false))

-- how many of these cuts were the first of a pair
abbrev pub firsts_in : Game → List Cut → ℕ → ℕ
firsts_in g cuts pair = times pair (cut_to (length (successors_at g pair) - 1) cuts)

-- how many of these cuts were the first of a pair of the cell, none where the cell is an obstacle
abbrev pub cell_cuts_in : Game → List Cut → ℕ → ℕ
cell_cuts_in g cuts c = cond (is_obstacle (mark_of g c)) 0 (sum_by (firsts_in g cuts) (pairs_at g c))

-- a cell is cut for the first cut of each of its pairs, and logged for the cut that uses it up
pub record IsInStep (g : Game) (cuts : List Cut) (logged : List ℕ) : Type 0 where
  pub cells : (c : ℕ) → c < g.cells → times (pairs_of g + c) (counters_of cuts) ≡ cell_cuts_in g cuts c
  pub logs : (c : ℕ) → times c logged ≡ times (pairs_of g + c) (cut_to 0 cuts)
  pub no_other_cut : All (λ (c : Cut). c.counter < pairs_of g + g.cells) cuts

-- what the account of a worker keeps in each round
pub record KeepsRule (g : Game) (a : Account) : Type 0 where
  pub in_step : IsInStep g a.cuts (logged_cells a.logs)
  pub no_offer : a.offers ≡ []

-- a pair is enabled, and was never cut
abbrev pub is_whole : Game → List Account → ℕ → Bool
is_whole g accounts pair = nat_lt 0 (length (successors_at g pair)) && (cut_count pair accounts == 0)

-- no pair is cut more often than it has successors
abbrev pub AreFewCuts : Game → List Account → Type 0
AreFewCuts g accounts = (pair : ℕ) → pair < pairs_of g → cut_count pair accounts ≤ length (successors_at g pair)

-- the row of a cell: none where it is an obstacle or has no whole pair, else that of the least input whose pair is whole
abbrev pub IsRowDecoded : Game → List Account → ℕ → Option Row → Type 0
IsRowDecoded g accounts c None = (mark_of g c ≡ Obstacle) ⊎ ((u : ℕ) → u < g.inputs → is_whole g accounts (pair_of g c u) ≡ false)
IsRowDecoded g accounts c (Some row) =
    (mark_of g c ≢ Obstacle) × (row.rank ≡ 0) × (row.input < g.inputs) × (is_whole g accounts (pair_of g c row.input) ≡ true)
    × ((u : ℕ) → u < row.input → is_whole g accounts (pair_of g c u) ≡ false)

-- the rows that these accounts show
abbrev pub AreRowsDecoded : Game → List Account → List (Option Row) → Type 0
AreRowsDecoded g accounts rows = AreTold g.cells (IsRowDecoded g accounts) rows
