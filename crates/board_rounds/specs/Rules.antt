-- What a rule owes the rounds that are played by it.
use Rattle.std.specs.Prelude.{◌≡◌, ℕ, suc, ◌+◌, ◌<◌, ◌≤◌, ◌==◌, Bool, List, [], ◌++◌, filter, length, sum_by, All}
use Rattle.std.specs.List.{range_with_len}
use Rattle.cell_counters.specs.declared.account.Account.{Account}
use Rattle.cell_counters.specs.Accounts.{cut_count, all_logs, log_count}
use Rattle.cell_counters.specs.BoardModels.{BoardModel, HandModel, IsLawful, blank, with_note}
use Rattle.game_core.specs.Counts.{times, one_if}
use Rattle.game_core.specs.Game.{Game, IsGraph, pairs_of, successors_at}
use Rattle.board_rounds.specs.Crew.{logged_cells, counters_of}

-- of so many pairs a hand has cut this one once, and no other; it has noted nothing
pub record CutsOnce (pairs pair : ℕ) (before after : HandModel) : Type 0 where
  pub at : after.board ≡ before.board
  pub notes : after.account.notes ≡ before.account.notes
  pub cuts : (p : ℕ) → p < pairs → times p (counters_of after.account.cuts) ≡ times p (counters_of before.account.cuts) + one_if (pair == p)

-- all that a round adds: each account keeps the rule, and each pair was cut once for each of its successors on the list
pub record IsRound (g : Game) (keeps : Account → Type 0) (list : List ℕ) (more : List Account) : Type 0 where
  pub each : All keeps more
  pub cuts : (pair : ℕ) → pair < pairs_of g → cut_count pair more ≡ sum_by (λ s. times s list) (successors_at g pair)

-- what a rule says stands before the first round, with the list that it chooses, and leads from each round on a board to the next, with the list that the round logged
pub record LeadsOn (g : Game) (board : BoardModel) (first : ℕ → Bool) (keeps : ℕ → Account → Type 0) (holds_before : ℕ → List ℕ → List Account → Type 0) : Type 0 where
  pub graph : IsGraph g
  -- the board has a counter for each pair
  pub counters : pairs_of g ≤ length board.starts
  -- who has done nothing keeps the rule, and who notes an item
  pub fresh : (d : ℕ) → keeps d blank
  pub noted : (d : ℕ) (a : Account) (item : ℕ) → keeps d a → keeps d (with_note a item)
  -- the first list
  pub begins : holds_before 0 (filter first (range_with_len 0 g.cells)) []
  -- a list has cells, and no more were logged than there are
  pub within : (d : ℕ) (list : List ℕ) (accounts : List Account) → holds_before d list accounts → All (λ c. c < g.cells) list
  pub few : (d : ℕ) (list : List ℕ) (accounts : List Account) → holds_before d list accounts → log_count accounts ≤ g.cells
  pub next : (d : ℕ) (list next : List ℕ) (accounts more : List Account) → d ≤ g.cells → 0 < length list → holds_before d list accounts → IsRound g (keeps d) list more
      → IsLawful (accounts ++ more) board.starts board.least → ((c : ℕ) → times c next ≡ times c (logged_cells (all_logs more))) → holds_before (suc d) next (accounts ++ more)

-- the rounds are over: no cell is on the list, and there were at most one more of them than there are cells
pub record IsAtEnd (cells : ℕ) (holds_before : ℕ → List ℕ → List Account → Type 0) (accounts : List Account) : Type 0 where
  pub rounds : ℕ
  pub in_time : rounds ≤ suc cells
  pub stood : holds_before rounds [] accounts
