-- What stands between the rounds of a reach game, and what a round adds.
use Rattle.std.specs.Prelude.{◌≡◌, ℕ, suc, ◌-◌, ◌/◌, ◌%◌, ◌<◌, ◌≤◌, ◌⊎◌, min, Bool, true, false, ◌&&◌, ◌||◌, ◌==◌, nat_lt, if◌then◌else◌, List, [], ◌∷◌, map, filter, length, count_by, Option, Some, None, All, IsPermutation}
use Rattle.std.specs.List.{range_with_len}
use Rattle.cell_counters.specs.declared.account.TheConstants.{NONE}
use Rattle.cell_counters.specs.declared.account.Cut.{Cut}
use Rattle.cell_counters.specs.declared.account.Offer.{Offer}
use Rattle.cell_counters.specs.declared.account.Account.{Account}
use Rattle.cell_counters.specs.Accounts.{IsLawfulCounter, IsLawfulLeast, cut_count, all_offers, values, all_logs}
use Rattle.game_core.specs.declared.game.Mark.{Mark}
use Rattle.game_core.specs.declared.game.Mark.TheVariants.{Goal, Obstacle, Plain}
use Rattle.game_core.specs.declared.game.Row.{Row}
use Rattle.game_core.specs.Counts.{times, one_if}
use Rattle.game_core.specs.Game.{Game, mark_of, pairs_of, successors_at}
use Rattle.game_core.specs.Solution.{row_of}
use Rattle.game_core.specs.Tally.{all_pairs, rank_by}
use Rattle.board_rounds.specs.Crew.{cuts_in, offers_in, logged_cells, claimed_words, cut_to}
use Rattle.reach_avoid.specs.ReachBoards.{word_at}
use Rattle.reach_avoid.specs.ReachReckoned.{word_and_value, due_offer}
use Rattle.base.specs.declared.limits.TheConstants.{VECTORS_LIMIT}

-- the row that a word has
abbrev pub row_in : ℕ → Option Row
row_in word = if (word == 0) || (word == NONE) then None else Some (record { rank = (word - 1) / VECTORS_LIMIT; input = (word - 1) % VECTORS_LIMIT })

-- the least of a number and some others
abbrev pub least_from : ℕ → List ℕ → ℕ
least_from start [] = start
least_from start (v ∷ rest) = least_from (min start v) rest

-- the minimum of a cell after these accounts
abbrev pub word_after : Game → List Account → ℕ → ℕ
word_after g accounts c = least_from (word_at (mark_of g c)) (values (all_offers c accounts))

-- the rows that these accounts show
abbrev pub decoded_rows : Game → List Account → List (Option Row)
decoded_rows g accounts = map (λ c. row_in (word_after g accounts c)) (range_with_len 0 g.cells)

-- a row of a rank below k
abbrev pub below_in : ℕ → Option Row → Bool
below_in k None = false
below_in k (Some row) = nat_lt row.rank k

-- a row of this rank
abbrev pub rank_is : ℕ → Option Row → Bool
rank_is k None = false
rank_is k (Some row) = row.rank == k

-- how many successors of a pair have a rank below k
abbrev pub count_ranked_below : Game → List (Option Row) → ℕ → ℕ → ℕ
count_ranked_below g rows k pair = count_by (λ s. below_in k (row_of rows s)) (successors_at g pair)

-- a pair is enabled, and all its successors have ranks below k
abbrev pub is_done : Game → List (Option Row) → ℕ → ℕ → Bool
is_done g rows k pair = nat_lt 0 (length (successors_at g pair)) && (count_ranked_below g rows k pair == length (successors_at g pair))

-- the offers of the pairs that are done, by the ranks of their successors
abbrev pub due_offers : Game → List (Option Row) → ℕ → List (ℕ × ℕ)
due_offers g rows k = map (λ pair. due_offer g (rank_by g rows pair) pair) (filter (is_done g rows k) (all_pairs g))

-- lawful for each pair, which begins with its successors, and for each cell
pub record IsLawfulFor (g : Game) (accounts : List Account) : Type 0 where
  pub pairs : (pair : ℕ) → pair < pairs_of g → (now : ℕ) × IsLawfulCounter accounts pair (length (successors_at g pair)) now
  pub cells : (c : ℕ) → c < g.cells → (now : ℕ) × IsLawfulLeast accounts c (word_at (mark_of g c)) now

-- an offer on the word of a cell, of a value that is a row
pub record IsDueOffer (g : Game) (o : Offer) : Type 0 where
  pub word : o.word < g.cells
  pub some : 0 < o.value
  pub less : o.value < NONE

-- before the round of a rank: all cells of lesser ranks are taken, and those of this rank are on the list
pub record IsReached (g : Game) (rank : ℕ) (list : List ℕ) (accounts : List Account) : Type 0 where
  pub lawful : IsLawfulFor g accounts
  pub cuts : (pair : ℕ) → pair < pairs_of g → cut_count pair accounts ≡ count_ranked_below g (decoded_rows g accounts) rank pair
  pub no_other_cut : All (λ (c : Cut). c.counter < pairs_of g) (cuts_in accounts)
  pub offers : IsPermutation (due_offers g (decoded_rows g accounts) rank) (map word_and_value (offers_in accounts))
  pub valued : All (IsDueOffer g) (offers_in accounts)
  pub logs : logged_cells (all_logs accounts) ≡ claimed_words (offers_in accounts)
  pub highest : (c : ℕ) (row : Row) → row_of (decoded_rows g accounts) c ≡ Some row → row.rank ≤ rank
  pub cells : (c : ℕ) → c < g.cells → times c list ≡ one_if (rank_is rank (row_of (decoded_rows g accounts) c))
  pub within : All (λ c. c < g.cells) list

-- a mark is that of a goal
abbrev pub is_goal : Mark → Bool
is_goal Goal = true
is_goal Obstacle = false
is_goal Plain = false

-- the list of the first round
abbrev pub goals_of : Game → List ℕ
goals_of g = filter (λ c. is_goal (mark_of g c)) (range_with_len 0 g.cells)

-- a cell has the rank before this one, where there is one before
abbrev pub IsFull : List (Option Row) → ℕ → Type 0
IsFull rows rank = (rank ≡ 0) ⊎ ((c : ℕ) × (row : Row) × (row_of rows c ≡ Some row) × (suc row.rank ≡ rank))

-- the counters that these cuts used up
abbrev pub last_cuts : List Cut → List ℕ
last_cuts cuts = cut_to 0 cuts

-- what the account of a worker keeps in the round of a rank: each cut that left nothing was followed by an offer, and each cell with a first offer was logged
pub record KeepsRule (g : Game) (rank : ℕ) (a : Account) : Type 0 where
  pub no_other_cut : All (λ (c : Cut). c.counter < pairs_of g) a.cuts
  pub offers : map word_and_value a.offers ≡ map (due_offer g (suc rank)) (last_cuts a.cuts)
  pub logs : logged_cells a.logs ≡ claimed_words a.offers

-- a row stays as it is, and one that comes has the next rank
pub record IsNext (rank : ℕ) (rows new : List (Option Row)) : Type 0 where
  pub stays : (c : ℕ) (row : Row) → row_of rows c ≡ Some row → row_of new c ≡ Some row
  pub comes : (c : ℕ) (row : Row) → row_of rows c ≡ None → row_of new c ≡ Some row → row.rank ≡ suc rank
