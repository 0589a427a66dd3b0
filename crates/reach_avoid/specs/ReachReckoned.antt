-- Which cuts and offers the accounts of a solved reach game hold together.
use Rattle.std.specs.Prelude.{◌≡◌, ℕ, ◌+◌, ◌*◌, ◌/◌, ◌%◌, ◌<◌, List, map, filter, Option, All, IsPermutation}
use Rattle.cell_counters.specs.declared.account.Cut.{Cut}
use Rattle.cell_counters.specs.declared.account.Offer.{Offer}
use Rattle.cell_counters.specs.declared.account.Account.{Account}
use Rattle.cell_counters.specs.Accounts.{cut_count}
use Rattle.game_core.specs.declared.game.Row.{Row}
use Rattle.game_core.specs.Game.{Game, pairs_of}
use Rattle.game_core.specs.Solution.{IsReachSolution}
use Rattle.game_core.specs.Tally.{all_pairs, ranked_in, is_resolved, rank_by}
use Rattle.board_rounds.specs.Crew.{cuts_in, offers_in}
use Rattle.base.specs.declared.limits.TheConstants.{VECTORS_LIMIT}

-- on which word an offer was made, and which value
abbrev pub word_and_value : Offer → ℕ × ℕ
word_and_value o = (o.word, o.value)

-- what a pair offers at a rank: on the word of its cell a value that is less for a lesser rank, and then for a lesser input
abbrev pub due_offer : Game → ℕ → ℕ → ℕ × ℕ
due_offer g rank pair = (pair / g.inputs, 1 + rank * VECTORS_LIMIT + pair % g.inputs)

-- as many cuts of each pair as it has ranked successors, one offer for each resolved pair, and no other cut or offer
pub record IsReckonedBy (g : Game) (rows : List (Option Row)) (accounts : List Account) : Type 0 where
  pub cuts : (pair : ℕ) → pair < pairs_of g → cut_count pair accounts ≡ ranked_in g rows pair
  pub no_other_cut : All (λ (c : Cut). c.counter < pairs_of g) (cuts_in accounts)
  pub offers : IsPermutation (map (λ pair. due_offer g (rank_by g rows pair) pair) (filter (is_resolved g rows) (all_pairs g))) (map word_and_value (offers_in accounts))

-- the accounts have the cuts and the offers of a game's solution
abbrev pub IsReckoned : Game → List Account → Type 0
IsReckoned g accounts = (rows : List (Option Row)) × IsReachSolution g rows × IsReckonedBy g rows accounts
