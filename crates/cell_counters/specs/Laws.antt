-- What lawful accounts show, for the callers of a board.
use Rattle.std.specs.Prelude.{◌≡◌, ◌≢◌, ℕ, ◌+◌, ◌-◌, ◌^◌, ◌<◌, ◌≤◌, ◌==◌, List, [], ◌++◌, map, length, count_by, All, IsPermutation}
use Rattle.std.specs.List.{range_with_len}
use Rattle.cell_counters.specs.declared.account.TheConstants.{NONE}
use Rattle.cell_counters.specs.declared.account.Log.{Log}
use Rattle.cell_counters.specs.declared.account.Account.{Account}
use Rattle.cell_counters.specs.Accounts.{IsLawfulCounter, IsLawfulLeast, IsLawfulLog, IsLeastOf, all_answers, cut_count, all_offers, values, first_count, all_logs, log_count, cell_at}

-- start - 1, start - 2 and so on, n numbers
abbrev pub countdown : ℕ → ℕ → List ℕ
countdown start n = map (λ j. start - j) (range_with_len 1 n)

-- at most start cuts answer start - 1, start - 2 and so on, each once
abbrev pub CountsDown : Type 0
CountsDown = (accounts : List Account) (counter start now : ℕ) → IsLawfulCounter accounts counter start now → start < 2 ^ 64 → cut_count counter accounts ≤ start
    → (now ≡ start - cut_count counter accounts) × IsPermutation (countdown start (cut_count counter accounts)) (all_answers counter accounts)

-- how many cuts of a counter in these accounts answered v
abbrev pub times_answered : ℕ → ℕ → List Account → ℕ
times_answered counter v accounts = count_by (λ answer. answer == v) (all_answers counter accounts)

-- of at most start cuts exactly one answers each number that they reach: 0, where there are start of them
abbrev pub AnswersOnce : Type 0
AnswersOnce = (accounts : List Account) (counter start now : ℕ) → IsLawfulCounter accounts counter start now → start < 2 ^ 64 → cut_count counter accounts ≤ start → (v : ℕ) → v < start
    → (start ≤ cut_count counter accounts + v → times_answered counter v accounts ≡ 1)
    × (cut_count counter accounts + v < start → times_answered counter v accounts ≡ 0)

-- of the offers on a word that began free exactly one was first, and the word is their least
abbrev pub OneIsFirst : Type 0
OneIsFirst = (accounts : List Account) (word now : ℕ) → IsLawfulLeast accounts word NONE now → 0 < length (all_offers word accounts) → All (λ v. v ≤ NONE) (values (all_offers word accounts))
    → (first_count (all_offers word accounts) ≡ 1) × IsLeastOf (values (all_offers word accounts)) now

-- with no account a counter and a minimum are what they began as, and the log is empty
abbrev pub NothingDone : Type 0
NothingDone = ((counter start : ℕ) → start < 2 ^ 64 → IsLawfulCounter [] counter start start) × ((word start : ℕ) → IsLawfulLeast [] word start start) × IsLawfulLog []

-- where more accounts come, at most start cuts in all, exactly one of their cuts answers each number that is newly reached, and none another number
abbrev pub NewAnswers : Type 0
NewAnswers = (before more : List Account) (counter start was now : ℕ) → IsLawfulCounter before counter start was → IsLawfulCounter (before ++ more) counter start now → start < 2 ^ 64 → cut_count counter (before ++ more) ≤ start → (v : ℕ) → v < start
    → (cut_count counter before + v < start → start ≤ cut_count counter (before ++ more) + v → times_answered counter v more ≡ 1)
    × (start ≤ cut_count counter before + v → times_answered counter v more ≡ 0)
    × (cut_count counter (before ++ more) + v < start → times_answered counter v more ≡ 0)

-- where more accounts come, exactly one of their offers on a word is first if it began free and had none before, and else none is
abbrev pub NewFirsts : Type 0
NewFirsts = (before more : List Account) (word start was now : ℕ) → IsLawfulLeast before word start was → IsLawfulLeast (before ++ more) word start now
    → (start ≡ NONE → length (all_offers word before) ≡ 0 → 0 < length (all_offers word more) → first_count (all_offers word more) ≡ 1)
    × (0 < length (all_offers word before) → first_count (all_offers word more) ≡ 0)
    × (start ≢ NONE → first_count (all_offers word more) ≡ 0)

-- where more accounts come, the cells that they logged stand at the slots that follow those of the logs before, in some order
abbrev pub NewSlots : Type 0
NewSlots = (before more : List Account) → IsLawfulLog before → IsLawfulLog (before ++ more)
    → IsPermutation (map (λ slot. cell_at slot (all_logs (before ++ more))) (range_with_len (log_count before) (log_count more))) (map (λ (l : Log). l.cell) (all_logs more))
