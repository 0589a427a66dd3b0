-- A board, its root and its hands as contracts see them, and what the calls change in them.
use Rattle.std.specs.Prelude.{◌≡◌, ℕ, ◌+◌, ◌-◌, ◌^◌, ◌<◌, Bool, List, [], ◌∷◌, ◌++◌, length, slice_index, min, nat_lt}
use Rattle.atomic_table.specs.Seated.{TableId}
use Rattle.cell_counters.specs.declared.account.Account.{Account}
use Rattle.cell_counters.specs.Accounts.{IsLawfulCounter, IsLawfulLeast, IsLawfulLog, log_count}

-- which board it is, the numbers with which its counters and its minima began, and how many slots its log has
pub record BoardModel : Type 0 where
  pub table : TableId
  pub starts : List ℕ
  pub least : List ℕ
  pub slots : ℕ

-- whose hand it is, and its account
pub record HandModel : Type 0 where
  pub board : BoardModel
  pub account : Account

-- whose root it is, how many hands are out, and the accounts of those that were taken in
pub record RootModel : Type 0 where
  pub board : BoardModel
  pub out : ℕ
  pub accounts : List Account

-- the account of who has done nothing
abbrev pub blank : Account
blank = record { cuts = []; offers = []; notes = []; logs = [] }

-- the account with one more cut
abbrev pub with_cut : Account → ℕ → ℕ → Account
with_cut a counter left = record a { cuts = a.cuts ++ record { counter = counter; left = left } ∷ [] }

-- the account with one more offer
abbrev pub with_offer : Account → ℕ → ℕ → Bool → Account
with_offer a word value first = record a { offers = a.offers ++ record { word = word; value = value; first = first } ∷ [] }

-- the account with one more note
abbrev pub with_note : Account → ℕ → Account
with_note a item = record a { notes = a.notes ++ item ∷ [] }

-- the account with one more log
abbrev pub with_log : Account → ℕ → ℕ → Account
with_log a cell number = record a { logs = a.logs ++ record { cell = cell; number = number } ∷ [] }

-- the hand has logged a cell: a number was drawn for it, and the answer is whether the log has that slot
pub record Logs (before after : HandModel) (cell : ℕ) (answer : Bool) : Type 0 where
  pub number : ℕ
  pub small : number < 2 ^ 64
  pub entered : after ≡ record before { account = with_log before.account cell number }
  pub answered : answer ≡ nat_lt number before.board.slots

-- how many of so many slots the logs in these accounts fill
abbrev pub filled_slots : List Account → ℕ → ℕ
filled_slots accounts slots = min (log_count accounts) slots

-- the hand of who has done nothing
abbrev pub fresh_hand : BoardModel → HandModel
fresh_hand board = record { board = board; account = blank }

-- the root of a new board
abbrev pub new_root : BoardModel → RootModel
new_root board = record { board = board; out = 0; accounts = [] }

-- the root with one more hand out
abbrev pub with_hand_out : RootModel → RootModel
with_hand_out r = record r { out = r.out + 1 }

-- the root after a hand with this account was taken in
abbrev pub with_hand_in : RootModel → Account → RootModel
with_hand_in r a = record r { out = r.out - 1; accounts = r.accounts ++ a ∷ [] }

-- for each counter and each minimum there is a number for which these accounts are lawful, and so they are for the log
pub record IsLawful (accounts : List Account) (starts least : List ℕ) : Type 0 where
  pub counters : (c : ℕ) → c < length starts → (now : ℕ) × IsLawfulCounter accounts c (slice_index starts c) now
  pub words : (w : ℕ) → w < length least → (now : ℕ) × IsLawfulLeast accounts w (slice_index least w) now
  pub log : log_count accounts < 2 ^ 64 → IsLawfulLog accounts
