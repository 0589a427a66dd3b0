-- Rounds before the first one and after the last.
use Rattle.std.specs.Prelude.{◌≡◌, ℕ, ◌≤◌, suc, []}
use Rattle.std.specs.Vec.{vec_capacity}
use Rattle.cell_counters.specs.BoardModels.{BoardModel, RootModel}
use Rattle.game_core.specs.declared.tally.Tally.{Tally}
use Rattle.board_rounds.specs.declared.rounds.Rounds.{Rounds}
use Rattle.board_rounds.specs.Crew.{IsTalliedBy}

-- the tally before anything is counted
abbrev pub no_tally : Tally
no_tally = record { cuts = 0; offers = 0; rounds = 0 }

-- nothing is done yet, and there is room for a list of all cells and so many workers
pub record IsUnused (root : RootModel) (cells workers : ℕ) (r : Rounds) : Type 0 where
  pub root_is : r.root ≡ root
  pub nobody : r.members.items ≡ []
  pub seats : workers ≤ vec_capacity r.members
  pub empty : r.list.items ≡ []
  pub capacity : cells ≤ vec_capacity r.list
  pub unlisted : r.listed ≡ 0
  pub untallied : r.tally ≡ no_tally

-- no cell is on the list, no member is left, all hands are taken in, and the tally has all that they did
pub record IsOver (board : BoardModel) (cells : ℕ) (r : Rounds) : Type 0 where
  pub empty : r.list.items ≡ []
  pub nobody : r.members.items ≡ []
  pub at : r.root.board ≡ board
  pub settled : r.root.out ≡ 0
  pub tallied : IsTalliedBy r.root.accounts r.tally
  pub in_time : r.tally.rounds ≤ suc cells
