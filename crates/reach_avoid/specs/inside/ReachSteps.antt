-- What a worker does for a pair.
use Rattle.std.specs.Prelude.{◌≡◌, ℕ, suc, ◌==◌, cond, [], ◌∷◌, ◌++◌, map}
use Rattle.cell_counters.specs.BoardModels.{HandModel}
use Rattle.game_core.specs.Game.{Game}
use Rattle.board_rounds.specs.Crew.{logged_cells, claimed_words}
use Rattle.reach_avoid.specs.ReachReckoned.{word_and_value, due_offer}

-- a worker has made a pair's offer, and logged the pair's cell where the offer was its first
pub record DueOffers (g : Game) (rank pair : ℕ) (before after : HandModel) : Type 0 where
  pub at : after.board ≡ before.board
  pub cuts : after.account.cuts ≡ before.account.cuts
  pub offers : map word_and_value after.account.offers ≡ map word_and_value before.account.offers ++ due_offer g (suc rank) pair ∷ []
  pub logs : logged_cells before.account.logs ≡ claimed_words before.account.offers → logged_cells after.account.logs ≡ claimed_words after.account.offers
  pub notes : after.account.notes ≡ before.account.notes

-- a worker has cut a pair, and made its offer where nothing was left
pub record Cuts (g : Game) (rank pair : ℕ) (before after : HandModel) : Type 0 where
  pub left : ℕ
  pub at : after.board ≡ before.board
  pub cuts : after.account.cuts ≡ before.account.cuts ++ record { counter = pair; left = left } ∷ []
  pub offers : map word_and_value after.account.offers ≡ map word_and_value before.account.offers ++ cond (left == 0) (due_offer g (suc rank) pair ∷ []) []
  pub logs : logged_cells before.account.logs ≡ claimed_words before.account.offers → logged_cells after.account.logs ≡ claimed_words after.account.offers
  pub notes : after.account.notes ≡ before.account.notes
