-- What stands between two rounds, and in a scratch that wasn't used yet.
use Rattle.std.specs.Prelude.{◌≡◌, ℕ, ◌+◌, ◌-◌, ◌<◌, ◌≤◌, suc, min, List, [], map, length, replicate, Option, None}
use Rattle.std.specs.List.{range_with_len}
use Rattle.std.specs.Vec.{vec_capacity}
use Rattle.cell_counters.specs.declared.account.Account.{Account}
use Rattle.cell_counters.specs.Accounts.{IsLawfulLog, all_logs, log_count, cell_at}
use Rattle.cell_counters.specs.BoardModels.{BoardModel, new_root}
use Rattle.game_core.specs.declared.game.Row.{Row}
use Rattle.board_rounds.specs.declared.rounds.Rounds.{Rounds}
use Rattle.board_rounds.specs.Crew.{IsTalliedBy}
use Rattle.board_rounds.specs.Rounds.{IsUnused}
use Rattle.base.specs.declared.limits.TheConstants.{WORKERS_LIMIT}

-- all hands are taken in, the log is on lists, the tally has all cuts and offers, and each round but the last found a cell
pub record IsRoundInvariant (holds_before : ℕ → List ℕ → List Account → Type 0) (board : BoardModel) (cells workers : ℕ) (r : Rounds) : Type 0 where
  pub by_rule : holds_before r.tally.rounds r.list.items r.root.accounts
  pub log : IsLawfulLog r.root.accounts
  pub all_listed : r.listed ≡ log_count r.root.accounts
  pub at : r.root.board ≡ board
  pub settled : r.root.out ≡ 0
  pub tallied : IsTalliedBy r.root.accounts r.tally
  pub nobody : r.members.items ≡ []
  pub seats : workers ≤ vec_capacity r.members
  pub capacity : cells ≤ vec_capacity r.list
  pub few : length r.list.items ≤ cells
  pub early : 0 < length r.list.items → r.tally.rounds ≤ r.listed
  pub in_time : r.tally.rounds ≤ suc cells

-- the cells that are logged from a slot on
abbrev pub cells_logged_from : ℕ → List Account → List ℕ
cells_logged_from first accounts = map (λ slot. cell_at slot (all_logs accounts)) (range_with_len first (log_count accounts - first))

-- how many rounds there may still be
abbrev pub to_go : ℕ → Rounds → ℕ
to_go cells r = cells - r.listed + min 1 (length r.list.items)

-- what a scratch keeps
pub record IsScratch (board : BoardModel) (count : ℕ) (r : Rounds) (answer : List (Option Row)) : Type 0 where
  pub unused : IsUnused (new_root board) board.slots count r
  pub blank : answer ≡ replicate board.slots None
  pub some_worker : 1 ≤ count
  pub few_workers : count ≤ WORKERS_LIMIT
