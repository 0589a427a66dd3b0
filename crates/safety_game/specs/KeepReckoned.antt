-- Which cuts the accounts of a solved keep game hold together.
use Rattle.std.specs.Prelude.{◌≡◌, ℕ, ◌+◌, ◌<◌, List, [], Option, count_by, All}
use Rattle.cell_counters.specs.declared.account.Cut.{Cut}
use Rattle.cell_counters.specs.declared.account.Account.{Account}
use Rattle.cell_counters.specs.Accounts.{cut_count}
use Rattle.game_core.specs.declared.game.Row.{Row}
use Rattle.game_core.specs.Game.{Game, pairs_of}
use Rattle.game_core.specs.Keep.{IsKeepSolution}
use Rattle.game_core.specs.Tally.{unkept_in, is_lost}
use Rattle.board_rounds.specs.Crew.{cuts_in, offers_in}
use Rattle.safety_game.specs.KeepBoards.{pairs_at}

-- how many pairs of a cell have a successor without a row, none where the cell is an obstacle
abbrev pub lost_at : Game → List (Option Row) → ℕ → ℕ
lost_at g rows c = count_by (is_lost g rows) (pairs_at g c)

-- as many cuts of each pair as it has successors without a row, as many of each cell as it has lost pairs, and no other cut or offer
pub record IsReckonedBy (g : Game) (rows : List (Option Row)) (accounts : List Account) : Type 0 where
  pub cuts : (pair : ℕ) → pair < pairs_of g → cut_count pair accounts ≡ unkept_in g rows pair
  pub cell_cuts : (c : ℕ) → c < g.cells → cut_count (pairs_of g + c) accounts ≡ lost_at g rows c
  pub no_other_cut : All (λ (c : Cut). c.counter < pairs_of g + g.cells) (cuts_in accounts)
  pub no_offer : offers_in accounts ≡ []

-- the accounts have the cuts of a game's solution
abbrev pub IsReckoned : Game → List Account → Type 0
IsReckoned g accounts = (rows : List (Option Row)) × IsKeepSolution g rows × IsReckonedBy g rows accounts
