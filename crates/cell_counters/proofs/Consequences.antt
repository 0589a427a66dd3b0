-- The laws on lawful accounts.
use Rattle.std.proofs.Common.{◌≡◌, ◌≢◌, ℕ, zero, suc, ◌+◌, ◌-◌, ◌^◌, ◌<◌, ◌≤◌, List, [], ◌∷◌, ◌++◌, map, length, length-append, refl, sym, ap, ◌∙◌, subst, arith, All, Contains, IsPermutation}
use Rattle.std.specs.List.{range_with_len}
use mathlib.Core.Logic.{dite}
use native.Mathlib.Decide.{ℕ_discrete}
use Rattle.std.proofs.lemmas.List.{same_lists, length-map, map-append}
use Rattle.std.proofs.lemmas.List.Concat.{flat_map-append}
use Rattle.std.proofs.lemmas.List.FromFn.{length-map-range_with_len, get_or-map-range_with_len}
use Rattle.std.proofs.lemmas.List.Sums.{sum_by_push, sum_by-append, count_by-le-length}
use Rattle.std.proofs.lemmas.List.Elements.{All-head, All-tail}
use Rattle.std.proofs.lemmas.List.Sorted.{IsPermutation-refl, IsPermutation-map}
use Rattle.cell_counters.specs.declared.account.TheConstants.{NONE}
use Rattle.cell_counters.specs.declared.account.Log.{Log}
use Rattle.cell_counters.specs.declared.account.Offer.{Offer}
use Rattle.cell_counters.specs.declared.account.Account.{Account}
use Rattle.cell_counters.specs.Accounts.{minus, lefts, answers, all_answers, cut_count, offers_on, all_offers, values, first_count, IsLeastOf, all_logs, log_count, numbers, cell_at}
use Rattle.cell_counters.specs.Laws.{countdown, CountsDown, AnswersOnce, OneIsFirst, NothingDone, NewAnswers, NewFirsts, NewSlots}
use Rattle.cell_counters.proofs.Countdown.{lefts-more}
use Rattle.cell_counters.proofs.Counts.{one_at, times-permutation, range_once, range-append, IsPermutation-rest}
use Rattle.cell_counters.proofs.Lists.{All-back}
use Rattle.cell_counters.proofs.Cuts.{counter_begins}
use Rattle.cell_counters.proofs.Offers.{least_begins}
use Rattle.cell_counters.proofs.Logs.{cells_told}
use Rattle.base.proofs.Times.{times-append, one_if_here, one_if_elsewhere}
use Rattle.base.specs.Counts.{one_if, times}

minus_within : (s j : ℕ) → s < 2 ^ 64 → j ≤ s → minus s j ≡ s - j
minus_within s j small le = omega arith

lefts_within : (s n : ℕ) → s < 2 ^ 64 → n ≤ s → lefts s n ≡ countdown s n
lefts_within s n small le =
    let one = length-map-range_with_len (minus s) 1 n in
    same_lists (lefts s n) (countdown s n) (one ∙ sym (length-map-range_with_len (λ j. s - j) 1 n))
    (λ k d lt. get_or-map-range_with_len (minus s) 1 n k (1 + k) d (omega (arith, one)) refl ∙ minus_within s (1 + k) small (omega (arith, one)) ∙ sym (get_or-map-range_with_len (λ j. s - j) 1 n k (1 + k) d (omega (arith, one)) refl))

pub counts_down : CountsDown
counts_down accounts counter start now h small few =
    let n = cut_count counter accounts in
    (h.left ∙ minus_within start n small few, subst (λ l. IsPermutation l (all_answers counter accounts)) (lefts_within start n small few) h.answered)

-- one cut more, where there are enough
times-more : (s n v : ℕ) → s < 2 ^ 64 → n < s → times v (lefts s (suc n)) ≡ times v (lefts s n) + one_at v (s - suc n)
times-more s n v small lt =
    let next : n + 1 ≡ suc n = omega arith in
    ap (λ k. times v (lefts s k)) (sym next) ∙ ap (times v) (lefts-more s n) ∙ sum_by_push (one_at v) (lefts s n) (minus s (n + 1))
    ∙ ap (λ k. times v (lefts s n) + one_at v k) (minus_within s (n + 1) small (omega arith) ∙ ap (λ k. s - k) next)

answered_later : (s n v : ℕ) → s < 2 ^ 64 → n + v < s → times v (lefts s n) ≡ 0
answered_later s zero v small lt = refl
answered_later s (suc n) v small lt =
    let before : times v (lefts s n) ≡ 0 = answered_later s n v small (omega arith) in
    let here : one_at v (s - suc n) ≡ 0 = one_if_elsewhere (s - suc n) v (λ e. absurd (omega arith)) in
    times-more s n v small (omega arith) ∙ omega arith

answered_once : (s n v : ℕ) → s < 2 ^ 64 → n ≤ s → v < s → s ≤ n + v → times v (lefts s n) ≡ 1
answered_once s zero v small le lt there = absurd (omega arith)
answered_once s (suc n) v small le lt there =
    times-more s n v small (omega arith)
    ∙ dite (ℕ_discrete (s - suc n) v)
    (λ (last : s - suc n ≡ v).
    let before : times v (lefts s n) ≡ 0 = answered_later s n v small (omega arith) in
    let here : one_at v (s - suc n) ≡ 1 = one_if_here (s - suc n) v last in omega arith)
    (λ (earlier : s - suc n ≢ v).
    let before : times v (lefts s n) ≡ 1 = answered_once s n v small (omega arith) lt (omega arith) in
    let here : one_at v (s - suc n) ≡ 0 = one_if_elsewhere (s - suc n) v earlier in omega arith)

pub answers_once : AnswersOnce
answers_once accounts counter start now h small few v lt =
    let n = cut_count counter accounts in
    let same : times v (all_answers counter accounts) ≡ times v (lefts start n) = times-permutation v (lefts start n) (all_answers counter accounts) h.answered in
    ((λ there. same ∙ answered_once start n v small few lt there), (λ later. same ∙ answered_later start n v small later))

-- a least number that is also the bound is among the others
least_among : (bound n : ℕ) (xs : List ℕ) → 0 < length xs → All (λ v. v ≤ bound) xs → IsLeastOf (bound ∷ xs) n → IsLeastOf xs n
least_among bound n [] some below h = absurd (omega arith)
least_among bound n (x ∷ xs) some below h = (among h.0, All-tail (λ m. n ≤ m) bound (x ∷ xs) h.1)
  where
    among : Contains (bound ∷ x ∷ xs) n → Contains (x ∷ xs) n
    among (zero, lt, e) =
        let small : x ≤ bound = All-head (λ v. v ≤ bound) x xs below in
        let least : n ≤ x = All-head (λ m. n ≤ m) x xs (All-tail (λ m. n ≤ m) bound (x ∷ xs) h.1) in
        let is : bound ≡ n = e in
        (0, omega arith, omega arith)
    among (suc i, lt, e) = (i, omega arith, e)

pub one_is_first : OneIsFirst
one_is_first accounts word now h some below =
    let len : length (values (all_offers word accounts)) ≡ length (all_offers word accounts) = length-map (all_offers word accounts) (λ (o : Offer). o.value) in
    (h.one_first refl some, least_among NONE now (values (all_offers word accounts)) (omega arith) below h.least)

pub nothing_done : NothingDone
nothing_done = (counter_begins, least_begins, IsPermutation-refl [])

pub new_answers : NewAnswers
new_answers before more counter start was now h both small few v lt =
    let all : all_answers counter (before ++ more) ≡ all_answers counter before ++ all_answers counter more = flat_map-append (answers counter) before more in
    let sum : times v (all_answers counter (before ++ more)) ≡ times v (all_answers counter before) + times v (all_answers counter more) = ap (times v) all ∙ times-append v (all_answers counter before) (all_answers counter more) in
    let len : cut_count counter (before ++ more) ≡ cut_count counter before + cut_count counter more = ap length all ∙ length-append (all_answers counter before) (all_answers counter more) in
    let old = answers_once before counter start was h small (omega arith) v lt in
    let new = answers_once (before ++ more) counter start now both small few v lt in (
      (λ later there. let none = old.1 later in let one = new.0 there in omega arith),
      (λ there. let one = old.0 there in let still = new.0 (omega arith) in omega arith),
      (λ later. let none = new.1 later in omega arith),
    )

pub new_firsts : NewFirsts
new_firsts before more word start was now h both =
    let all : all_offers word (before ++ more) ≡ all_offers word before ++ all_offers word more = flat_map-append (offers_on word) before more in
    let sum : first_count (all_offers word (before ++ more)) ≡ first_count (all_offers word before) + first_count (all_offers word more) =
    ap first_count all ∙ sum_by-append (λ (o : Offer). one_if o.first) (all_offers word before) (all_offers word more) in
    let len : length (all_offers word (before ++ more)) ≡ length (all_offers word before) + length (all_offers word more) = ap length all ∙ length-append (all_offers word before) (all_offers word more) in
    let few : first_count (all_offers word before) ≤ length (all_offers word before) = count_by-le-length (λ (o : Offer). o.first) (all_offers word before) in
    let taken : start ≢ NONE → first_count (all_offers word more) ≡ 0 = (λ apart. let none = both.none_first apart in omega arith) in (
      (λ free none some. let one = both.one_first free (omega arith) in omega arith),
      (λ some. dite (ℕ_discrete start NONE) (λ (free : start ≡ NONE). let one = h.one_first free some in let still = both.one_first free (omega arith) in omega arith) taken),
      taken,
    )

-- the cells of logs, given by their numbers
cells_by_number : (f : ℕ → ℕ) (logs : List Log) → All (λ (l : Log). f l.number ≡ l.cell) logs → map f (numbers logs) ≡ map (λ (l : Log). l.cell) logs
cells_by_number f [] told = refl
cells_by_number f (l ∷ rest) told = cc (All-head (λ (m : Log). f m.number ≡ m.cell) l rest told, cells_by_number f rest (All-tail (λ (m : Log). f m.number ≡ m.cell) l rest told))

pub new_slots : NewSlots
new_slots before more h both =
    let f : ℕ → ℕ = (λ slot. cell_at slot (all_logs (before ++ more))) in
    let b = log_count before in
    let m = log_count more in
    let all : all_logs (before ++ more) ≡ all_logs before ++ all_logs more = flat_map-append (λ (a : Account). a.logs) before more in
    let len : log_count (before ++ more) ≡ b + m = ap length all ∙ length-append (all_logs before) (all_logs more) in
    let drawn : numbers (all_logs (before ++ more)) ≡ numbers (all_logs before) ++ numbers (all_logs more) = ap numbers all ∙ map-append (λ (l : Log). l.number) (all_logs before) (all_logs more) in
    let slots : range_with_len 0 (log_count (before ++ more)) ≡ range_with_len 0 b ++ range_with_len b m = range-append 0 b m b (log_count (before ++ more)) (omega arith) (omega arith) in
    let rest : IsPermutation (range_with_len b m) (numbers (all_logs more)) =
    IsPermutation-rest (range_with_len 0 b) (range_with_len b m) (numbers (all_logs before)) (numbers (all_logs more)) h (subst (λ l. IsPermutation l (numbers (all_logs before) ++ numbers (all_logs more))) slots (subst (IsPermutation (range_with_len 0 (log_count (before ++ more)))) drawn both)) in
    let told : All (λ (l : Log). f l.number ≡ l.cell) (all_logs (before ++ more)) =
    cells_told (all_logs (before ++ more)) (λ v. let once = range_once v 0 (log_count (before ++ more)) in let same = times-permutation v (range_with_len 0 (log_count (before ++ more))) (numbers (all_logs (before ++ more))) both in omega arith) in
    let of_more : All (λ (l : Log). f l.number ≡ l.cell) (all_logs more) = All-back (λ (l : Log). f l.number ≡ l.cell) (all_logs before) (all_logs more) (subst (All (λ (l : Log). f l.number ≡ l.cell)) all told) in
    subst (IsPermutation (map f (range_with_len b m))) (cells_by_number f (all_logs more) of_more) (IsPermutation-map f (range_with_len b m) (numbers (all_logs more)) rest)
