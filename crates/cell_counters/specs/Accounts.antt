-- Which accounts are lawful for a counter, for a minimum and for the log.
use Rattle.std.specs.Prelude.{◌≡◌, ◌≢◌, ℕ, ◌+◌, ◌-◌, ◌*◌, ◌%◌, ◌^◌, ◌<◌, ◌≤◌, ◌==◌, false, List, [], ◌∷◌, cond, map, filter, length, drop, count_by, All, Contains, IsPermutation}
use Rattle.std.specs.List.{flat_map, range_with_len}
use Rattle.std.specs.List.Sorted.{IsStrictlyIncreasing}
use Rattle.cell_counters.specs.declared.account.TheConstants.{NONE}
use Rattle.cell_counters.specs.declared.account.Cut.{Cut}
use Rattle.cell_counters.specs.declared.account.Offer.{Offer}
use Rattle.cell_counters.specs.declared.account.Log.{Log}
use Rattle.cell_counters.specs.declared.account.Account.{Account}

-- a - b modulo 2^64
abbrev pub minus : ℕ → ℕ → ℕ
minus a b = (a + b * (2 ^ 64 - 1)) % 2 ^ 64

-- what n cuts leave of start, one after another
abbrev pub lefts : ℕ → ℕ → List ℕ
lefts start n = map (minus start) (range_with_len 1 n)

-- what an account's cuts of a counter answered, in order
abbrev pub answers : ℕ → Account → List ℕ
answers counter account = map (λ (c : Cut). c.left) (filter (λ (c : Cut). c.counter == counter) account.cuts)

-- what all cuts of a counter in these accounts answered
abbrev pub all_answers : ℕ → List Account → List ℕ
all_answers counter accounts = flat_map (answers counter) accounts

-- how many cuts of a counter these accounts have
abbrev pub cut_count : ℕ → List Account → ℕ
cut_count counter accounts = length (all_answers counter accounts)

-- these accounts have all cuts of a counter that began at start, and now this is left
pub record IsLawfulCounter (accounts : List Account) (counter start now : ℕ) : Type 0 where
  -- each cut took one
  pub left : now ≡ minus start (cut_count counter accounts)
  -- what they answered is what so many cuts leave, each cut once
  pub answered : IsPermutation (lefts start (cut_count counter accounts)) (all_answers counter accounts)
  -- the numbers of one account's cuts, counted from the first of all, rise
  pub in_order : cut_count counter accounts < 2 ^ 64 → All (λ a. IsStrictlyIncreasing (map (minus start) (answers counter a))) accounts

-- an account's offers on a minimum, in order
abbrev pub offers_on : ℕ → Account → List Offer
offers_on word account = filter (λ (o : Offer). o.word == word) account.offers

-- all offers on a minimum in these accounts
abbrev pub all_offers : ℕ → List Account → List Offer
all_offers word accounts = flat_map (offers_on word) accounts

-- the values that these offers offered
abbrev pub values : List Offer → List ℕ
values offers = map (λ (o : Offer). o.value) offers

-- how many of these offers were first
abbrev pub first_count : List Offer → ℕ
first_count offers = count_by (λ (o : Offer). o.first) offers

-- none of these offers was first
abbrev pub NoneIsFirst : List Offer → Type 0
NoneIsFirst offers = All (λ (o : Offer). o.first ≡ false) offers

-- n is the least of these numbers
abbrev pub IsLeastOf : List ℕ → ℕ → Type 0
IsLeastOf numbers n = Contains numbers n × All (λ m. n ≤ m) numbers

-- these accounts have all offers on a minimum that began at start, and now this is the least
pub record IsLawfulLeast (accounts : List Account) (word start now : ℕ) : Type 0 where
  pub least : IsLeastOf (start ∷ values (all_offers word accounts)) now
  -- exactly one was first, where the word began free
  pub one_first : start ≡ NONE → 0 < length (all_offers word accounts) → first_count (all_offers word accounts) ≡ 1
  -- none was, where it began with a value
  pub none_first : start ≢ NONE → first_count (all_offers word accounts) ≡ 0
  -- of one account only the earliest may be first
  pub earliest : All (λ a. NoneIsFirst (drop 1 (offers_on word a))) accounts

-- all logs in these accounts
abbrev pub all_logs : List Account → List Log
all_logs accounts = flat_map (λ (a : Account). a.logs) accounts

-- how many logs these accounts have
abbrev pub log_count : List Account → ℕ
log_count accounts = length (all_logs accounts)

-- the numbers that were drawn for these logs
abbrev pub numbers : List Log → List ℕ
numbers logs = map (λ (l : Log). l.number) logs

-- the cell of the first of these logs whose number is this slot
abbrev pub cell_at : ℕ → List Log → ℕ
cell_at slot [] = 0
cell_at slot (l ∷ rest) = cond (l.number == slot) l.cell (cell_at slot rest)

-- the numbers that were drawn are 0, 1, 2 and so on, each once
abbrev pub IsLawfulLog : List Account → Type 0
IsLawfulLog accounts = IsPermutation (range_with_len 0 (log_count accounts)) (numbers (all_logs accounts))
