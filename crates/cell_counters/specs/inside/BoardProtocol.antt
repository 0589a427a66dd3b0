-- The rule of the table below a board, and what a step shows.
use Rattle.std.specs.Prelude.{◌≡◌, ◌≢◌, ℕ, ◌+◌, ◌-◌, ◌%◌, ◌^◌, ◌<◌, ◌≤◌, ◌==◌, ◌⊎◌, Option, Some, None, cond, List, [], ◌∷◌, ◌++◌, length, take, drop, slice_index, nat_lt, All, IsPermutation}
use Rattle.std.specs.List.{flat_map, range_with_len}
use Rattle.atomic_table.specs.Table.{State, Step, Me}
use Rattle.atomic_table.specs.Seated.{TableId}
use Rattle.cell_counters.specs.declared.account.TheConstants.{NONE}
use Rattle.cell_counters.specs.declared.account.Account.{Account}
use Rattle.cell_counters.specs.declared.account.Log.{Log}
use Rattle.cell_counters.specs.declared.rule.Setup.{Setup}
use Rattle.cell_counters.specs.declared.rule.View.{View}
use Rattle.cell_counters.specs.declared.rule.Beginning.{Beginning}
use Rattle.cell_counters.specs.Accounts.{IsLawfulCounter, IsLawfulLeast, offers_on, all_offers, all_logs, log_count, numbers, cell_at}
use Rattle.cell_counters.specs.BoardModels.{BoardModel, RootModel, HandModel, blank, with_cut, with_offer, with_note, with_log, IsLawful, filled_slots}

-- the numbers with which a board with this key began
abbrev pub setup_of : Beginning → Setup
setup_of b = record { starts = take b.counters b.words.items; least = drop b.counters b.words.items; slots = b.slots }

-- the word that counts the logs: it stands after the counters and the minima
abbrev pub tail_of : Setup → ℕ
tail_of n = length n.starts + length n.least

-- the word of a slot of the log
abbrev pub slot_of : Setup → ℕ → ℕ
slot_of n k = tail_of n + 1 + k

-- the accounts of all views
abbrev pub accounts_of : List View → List Account
accounts_of views = flat_map (λ (v : View). v.accounts) views

-- how many hands were made: the first view is the root's
abbrev pub made_of : List View → ℕ
made_of [] = 0
made_of (root ∷ hands) = root.made

-- lawful for a minimum, which is free only where it began free and nothing was offered
pub record Stands (accounts : List Account) (word start now : ℕ) : Type 0 where
  pub lawful : IsLawfulLeast accounts word start now
  pub offered : 0 < length (all_offers word accounts) → now < NONE
  pub taken : start ≢ NONE → now < NONE

-- these accounts are lawful for each counter
abbrev pub ExplainsCounters : List ℕ → List ℕ → List Account → Type 0
ExplainsCounters starts words accounts = (c : ℕ) → c < length starts → IsLawfulCounter accounts c (slice_index starts c) (slice_index words c)

-- these accounts are lawful for each minimum
abbrev pub ExplainsLeast : List ℕ → List ℕ → List ℕ → List Account → Type 0
ExplainsLeast starts least words accounts = (w : ℕ) → w < length least → Stands accounts w (slice_index least w) (slice_index words (length starts + w))

-- there are so many logs, and their numbers are those below
pub record IsCounted (logs : List Log) (now : ℕ) : Type 0 where
  pub count : now ≡ length logs % 2 ^ 64
  pub drawn : length logs < 2 ^ 64 → IsPermutation (range_with_len 0 (length logs)) (numbers logs)

-- the slot of this log has its cell, unless it is still to be stored
abbrev pub IsStored : Setup → List ℕ → Option ℕ → Log → Type 0
IsStored n words awaits l = l.number < n.slots → awaits ≢ Some l.number → slice_index words (slot_of n l.number) ≡ l.cell

-- the same of all that a view has logged
abbrev pub HasStored : Setup → List ℕ → View → Type 0
HasStored n words v = All (IsStored n words v.awaits) (all_logs v.accounts)

-- the tail counts the logs, and each slot that was drawn has its cell, unless a view has still to store it
pub record KeepsLog (n : Setup) (words : List ℕ) (views : List View) : Type 0 where
  pub counted : IsCounted (all_logs (accounts_of views)) (slice_index words (tail_of n))
  pub cells : (k : ℕ) → k < n.slots → slice_index words (slot_of n k) < 2 ^ 32
  pub stored : log_count (accounts_of views) < 2 ^ 64 → All (HasStored n words) views

-- the view of a hand that was taken in
abbrev pub empty_view : View
empty_view = record { began = record { starts = []; least = []; slots = 0 }; made = 0; accounts = []; awaits = None }

-- a view knows how the board began, unless it was taken in
abbrev pub Knows : Setup → View → Type 0
Knows n v = (v ≡ empty_view) ⊎ (v.began ≡ n)

-- the rule: the accounts of all views are together lawful, there are as many as hands were made, and each view knows how the board began
pub record Keeps (n : Setup) (state : State (Unit {0}) View) : Type 0 where
  pub width : length state.words ≡ tail_of n + 1 + n.slots
  pub made : made_of state.views ≡ length (accounts_of state.views)
  pub known : All (Knows n) state.views
  pub cuts : ExplainsCounters n.starts state.words (accounts_of state.views)
  pub offers : ExplainsLeast n.starts n.least state.words (accounts_of state.views)
  pub log : KeepsLog n state.words state.views

-- the root's view of a new table
abbrev pub root_of : Beginning → View
root_of b = record { began = setup_of b; made = 0; accounts = []; awaits = None }

-- the root's view with one more hand
abbrev pub one_more : View → View
one_more v = record v { made = v.made + 1 }

-- a new hand's view
abbrev pub new_hand : View → View
new_hand v = record { began = v.began; made = 0; accounts = blank ∷ []; awaits = None }

-- the root's view with a hand's accounts
abbrev pub joined_view : View → View → View
joined_view v w = record v { accounts = v.accounts ++ w.accounts }

-- the first of some accounts
abbrev pub first_of : List Account → Account
first_of [] = blank
first_of (a ∷ rest) = a

-- the one account of a hand's view
abbrev pub account_of : View → Account
account_of v = first_of v.accounts

-- the hand's view with another account
abbrev pub with_account : View → Account → View
with_account v a = record v { accounts = a ∷ [] }

-- the slot that is to be stored, where the log has it
abbrev pub awaited : ℕ → ℕ → Option ℕ
awaited slots number = cond (nat_lt number slots) (Some number) None

-- the hand's view after a number was drawn for a cell
abbrev pub view_after_draw : View → ℕ → ℕ → View
view_after_draw v cell number = record v { accounts = with_log (account_of v) cell number ∷ []; awaits = awaited v.began.slots number }

-- the hand's view after the cell was stored
abbrev pub view_after_store : View → View
view_after_store v = record v { awaits = None }

-- the board that began so
abbrev pub board_of : TableId → Setup → BoardModel
board_of table n = record { table = table; starts = n.starts; least = n.least; slots = n.slots }

-- a board as contracts see it
abbrev pub board_model : TableId → Beginning → BoardModel
board_model table b = board_of table (setup_of b)

-- the root as contracts see it
abbrev pub root_model : TableId → View → ℕ → RootModel
root_model table v out = record { board = board_of table v.began; out = out; accounts = v.accounts }

-- a hand as contracts see it
abbrev pub hand_model : TableId → View → HandModel
hand_model table v = record { board = board_of table v.began; account = account_of v }

-- what a seat knows
abbrev pub Seated : Type 0
Seated = Me (Unit {0}) View

-- the table has the counters first, then the minima, the tail and the slots, at most 2^32 words
pub record IsSized (b : Beginning) (counters tail slots words : ℕ) : Type 0 where
  pub split : counters ≡ b.counters
  pub within : counters ≤ tail
  pub both : tail ≡ length b.words.items
  pub log : slots ≡ b.slots
  pub all : words ≡ tail + 1 + slots
  pub few : words ≤ 2 ^ 32

-- the first seat, which knows how many hands it made
pub record IsRoot (id : ℕ) (me : Seated) (out : ℕ) : Type 0 where
  pub first : id ≡ 0
  pub bare : me.1 ≡ []
  pub idle : me.0.awaits ≡ None
  pub made : me.0.made ≡ out + length me.0.accounts

-- a seat with one account, and nothing still to be stored
pub record IsHand (me : Seated) : Type 0 where
  pub bare : me.1 ≡ []
  pub idle : me.0.awaits ≡ None
  pub one : me.0.accounts ≡ account_of me.0 ∷ []

-- what a cut shows: the account has one more, which answered what it left
abbrev pub Cuts : Step (Unit {0}) → Seated → ℕ → Seated → Type 0
Cuts s me found after = after ≡ (with_account me.0 (with_cut (account_of me.0) s.word ((found + (2 ^ 64 - 1)) % 2 ^ 64)), me.1)

-- what an offer shows: it is first where it found the word free, and then the word began free and the account has no earlier offer on it
abbrev pub Offers : Step (Unit {0}) → Seated → ℕ → Seated → Type 0
Offers s me found after =
    let word = s.word - length me.0.began.starts in
    (after ≡ (with_account me.0 (with_offer (account_of me.0) word s.first (found == NONE)), me.1))
    × (found ≡ NONE → (slice_index me.0.began.least word ≡ NONE) × (offers_on word (account_of me.0) ≡ []))

-- what a note shows
abbrev pub Notes : ℕ → Step (Unit {0}) → Seated → ℕ → Seated → Type 0
Notes item s me found after = after ≡ (with_account me.0 (with_note (account_of me.0) item), me.1)

-- what a draw shows
abbrev pub Draws : ℕ → Step (Unit {0}) → Seated → ℕ → Seated → Type 0
Draws cell s me found after = after ≡ (view_after_draw me.0 cell found, me.1)

-- what a store shows
abbrev pub Stores : Step (Unit {0}) → Seated → ℕ → Seated → Type 0
Stores s me found after = after ≡ (view_after_store me.0, me.1)

-- no hand is out
abbrev pub IsAlone : View → Type 0
IsAlone v = length v.accounts ≡ v.made

-- what these words are to the accounts of all hands
pub record Explains (n : Setup) (accounts : List Account) (word found : ℕ) : Type 0 where
  pub lawful : IsLawful accounts n.starts n.least
  pub counter : word < length n.starts → IsLawfulCounter accounts word (slice_index n.starts word) found
  pub least : (w : ℕ) → w < length n.least → word ≡ length n.starts + w → IsLawfulLeast accounts w (slice_index n.least w) found
  pub tail : word ≡ tail_of n → found ≡ log_count accounts % 2 ^ 64
  pub cell : tail_of n < word → word < slot_of n n.slots → found < 2 ^ 32
  pub slot : (k : ℕ) → k < filled_slots accounts n.slots → word ≡ slot_of n k → log_count accounts < 2 ^ 64 → found ≡ cell_at k (all_logs accounts)

-- what a look by the root shows: no more were taken in than were made, and where none is out, its accounts explain the word
pub record Looks (s : Step (Unit {0})) (me : Seated) (found : ℕ) (after : Seated) : Type 0 where
  pub same : after ≡ me
  pub made : length me.0.accounts ≤ me.0.made
  pub explained : IsAlone me.0 → Explains me.0.began me.0.accounts s.word found
