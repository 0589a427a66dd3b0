-- Workers during a round.
use Rattle.std.specs.Prelude.{◌≡◌, ℕ, ◌%◌, ◌^◌, ◌<◌, ◌≤◌, List, length, slice_index, sum_by, All}
use Rattle.cell_counters.specs.declared.account.Account.{Account}
use Rattle.cell_counters.specs.BoardModels.{BoardModel, HandModel}
use Rattle.frontier_pool.specs.declared.member.Member.{Member}
use Rattle.game_core.specs.Counts.{times}
use Rattle.game_core.specs.Game.{Game, pairs_of, successors_at}
use Rattle.board_rounds.specs.Crew.{counters_of}
use Rattle.base.specs.declared.limits.TheConstants.{CELLS_LIMIT}

-- these counts are those of an account, modulo 2^64
pub record IsCounted (a : Account) (cuts offers : ℕ) : Type 0 where
  pub all_cuts : cuts ≡ length a.cuts % 2 ^ 64
  pub all_offers : offers ≡ length a.offers % 2 ^ 64

-- what stands for a whole round: the list has cells
pub record IsRoundJob (g : Game) (list : List ℕ) (round items : ℕ) : Type 0 where
  pub early : round ≤ CELLS_LIMIT
  pub items_are : items ≡ length list
  pub within : All (λ c. c < g.cells) list

-- how often a pair is cut for an item of the list
abbrev pub cuts_for : Game → List ℕ → ℕ → ℕ → ℕ
cuts_for g list pair item = times (slice_index list item) (successors_at g pair)

-- a worker in a round, which did the items that it noted
pub record IsAtWork (g : Game) (fits : BoardModel → Type 0) (keeps : Account → Type 0) (board : BoardModel) (list : List ℕ) (w : HandModel) : Type 0 where
  pub of_game : fits board
  pub at : w.board ≡ board
  pub cuts : (pair : ℕ) → pair < pairs_of g → times pair (counters_of w.account.cuts) ≡ sum_by (cuts_for g list pair) w.account.notes
  pub kept : keeps w.account

-- members that were at work
abbrev pub AllAtWork : Game → (BoardModel → Type 0) → (Account → Type 0) → BoardModel → List ℕ → List (Member HandModel) → Type 0
AllAtWork g fits keeps board list members = All (λ (m : Member HandModel). IsAtWork g fits keeps board list m.hand) members
