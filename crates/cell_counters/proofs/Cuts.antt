-- What a step does to lawful accounts of a counter.
use Rattle.std.proofs.Common.{◌≡◌, ℕ, ◌+◌, ◌-◌, ◌%◌, ◌^◌, ◌<◌, ◌≤◌, List, [], ◌∷◌, ◌++◌, length, map, sym, ap, ◌∙◌, subst, arith, All, IsPermutation}
use Rattle.std.specs.List.Sorted.{IsStrictlyIncreasing}
use Rattle.std.proofs.lemmas.List.{append-nil, map-append}
use Rattle.std.proofs.lemmas.List.Concat.{flat_map-append}
use Rattle.std.proofs.lemmas.List.Elements.{All-map, All-push, All-nil, All-weaker}
use Rattle.std.proofs.lemmas.List.Sorted.{IsPermutation-refl, IsPermutation-trans, IsPermutation-cons, IsPermutation-to_front, All-permutation, length_permutation}
use Rattle.cell_counters.specs.declared.account.Account.{Account}
use Rattle.cell_counters.specs.Accounts.{minus, lefts, answers, all_answers, cut_count, IsLawfulCounter}
use Rattle.cell_counters.specs.BoardModels.{blank}
use Rattle.cell_counters.proofs.Lists.{All-front, All-back, IsStrictlyIncreasing-push}
use Rattle.cell_counters.proofs.Countdown.{minus-zero, minus-more, minus-minus, lefts-more, numbers_below}
use Rattle.cell_counters.proofs.Parts.{Replaced, entries_were, entries_stay, entries_grow, All-after}

-- an account's cuts are in the order in which they were made
abbrev pub InOrder : ℕ → ℕ → Account → Type 0
InOrder counter start a = IsStrictlyIncreasing (map (minus start) (answers counter a))

-- with no account nothing was taken
pub counter_begins : (counter start : ℕ) → start < 2 ^ 64 → IsLawfulCounter [] counter start start
counter_begins counter start small =
    record { left = sym (minus-zero start small); answered = IsPermutation-refl []; in_order = λ few. All-nil (InOrder counter start) }

-- the accounts are in another order
pub counter_moved : (xs ys : List Account) (counter start now : ℕ) → IsPermutation xs ys → IsPermutation (all_answers counter xs) (all_answers counter ys) → IsLawfulCounter xs counter start now → IsLawfulCounter ys counter start now
counter_moved xs ys counter start now accounts same h =
    let count : cut_count counter ys ≡ cut_count counter xs = length_permutation (all_answers counter xs) (all_answers counter ys) same in
    record {
      left = h.left ∙ ap (minus start) (sym count);
      answered = subst (λ n. IsPermutation (lefts start n) (all_answers counter ys)) (sym count) (IsPermutation-trans (lefts start (cut_count counter xs)) (all_answers counter xs) (all_answers counter ys) h.answered same);
      in_order = λ few. All-permutation (InOrder counter start) xs ys accounts (h.in_order (omega arith));
    }

-- a step that adds no cut of this counter
pub counter_stays : (xs ys : List Account) (a b : Account) (counter start now : ℕ) → Replaced xs ys a b → answers counter b ≡ answers counter a → IsLawfulCounter xs counter start now → IsLawfulCounter ys counter start now
counter_stays xs ys a b counter start now r same h =
    let all : all_answers counter ys ≡ all_answers counter xs = entries_stay (answers counter) xs ys a b r same in
    record {
      left = h.left ∙ ap (λ l. minus start (length l)) (sym all);
      answered = subst (λ l. IsPermutation (lefts start (length l)) l) (sym all) h.answered;
      in_order = λ few. All-after (InOrder counter start) xs ys a b r (subst (λ l. IsStrictlyIncreasing (map (minus start) l)) (sym same)) (h.in_order (subst (λ l. length l < 2 ^ 64) all few));
    }

-- a cut of this counter
pub counter_cut : (xs ys : List Account) (a b : Account) (counter start now : ℕ) → Replaced xs ys a b → answers counter b ≡ answers counter a ++ (now + (2 ^ 64 - 1)) % 2 ^ 64 ∷ [] → IsLawfulCounter xs counter start now
    → IsLawfulCounter ys counter start ((now + (2 ^ 64 - 1)) % 2 ^ 64)
counter_cut xs ys a b counter start now r more h =
    let n = cut_count counter xs in
    let x = (now + (2 ^ 64 - 1)) % 2 ^ 64 in
    let G = answers counter a in
    let left : x ≡ minus start (n + 1) = ap (λ m. (m + (2 ^ 64 - 1)) % 2 ^ 64) h.left ∙ minus-more start n in
    let grown : IsPermutation (x ∷ all_answers counter xs) (all_answers counter ys) = entries_grow (answers counter) xs ys a b r x more in
    let count : cut_count counter ys ≡ n + 1 = length_permutation (x ∷ all_answers counter xs) (all_answers counter ys) grown ∙ omega arith in
    let lefts_is : lefts start n ++ x ∷ [] ≡ lefts start (n + 1) = ap (λ y. lefts start n ++ y ∷ []) left ∙ sym (lefts-more start n) in
    let all : IsPermutation (lefts start n ++ x ∷ []) (all_answers counter ys) =
    IsPermutation-trans (lefts start n ++ x ∷ []) (x ∷ lefts start n) (all_answers counter ys) (IsPermutation-to_front (lefts start n) x)
    (IsPermutation-trans (x ∷ lefts start n) (x ∷ all_answers counter xs) (all_answers counter ys) (IsPermutation-cons x (lefts start n) (all_answers counter xs) h.answered) grown) in
    record {
      left = left ∙ ap (minus start) (sym count);
      answered = subst (λ k. IsPermutation (lefts start k) (all_answers counter ys)) (sym count) (subst (λ l. IsPermutation l (all_answers counter ys)) lefts_is all);
      in_order = λ few.
          let small : n + 1 < 2 ^ 64 = omega arith in
          let numbers : All (λ answer. minus start answer ≤ n) (all_answers counter xs) = All-permutation (λ answer. minus start answer ≤ n) (lefts start n) (all_answers counter xs) h.answered (numbers_below start n (omega arith)) in
          let mine : All (λ answer. minus start answer ≤ n) G =
          All-front (λ answer. minus start answer ≤ n) G (all_answers counter r.back)
          (All-back (λ answer. minus start answer ≤ n) (all_answers counter r.front) (G ++ all_answers counter r.back) (subst (All (λ answer. minus start answer ≤ n)) (entries_were (answers counter) xs ys a b r) numbers)) in
          let number : minus start x ≡ n + 1 = ap (minus start) left ∙ minus-minus start (n + 1) small in
          let below : All (λ k. k < minus start x) (map (minus start) G) = All-map (λ k. k < minus start x) (minus start) G (All-weaker (λ answer. minus start answer ≤ n) (λ answer. minus start answer < minus start x) (λ answer le. omega arith) G mine) in
          let grows : InOrder counter start a → InOrder counter start b =
          (λ up. subst (λ l. IsStrictlyIncreasing (map (minus start) l)) (sym more) (subst IsStrictlyIncreasing (sym (map-append (minus start) G (x ∷ []))) (IsStrictlyIncreasing-push (map (minus start) G) (minus start x) up below))) in
          All-after (InOrder counter start) xs ys a b r grows (h.in_order (omega arith));
    }

-- one more account, of who has done nothing
pub counter_welcomes : (xs : List Account) (counter start now : ℕ) → IsLawfulCounter xs counter start now → IsLawfulCounter (xs ++ blank ∷ []) counter start now
counter_welcomes xs counter start now h =
    let all : all_answers counter (xs ++ blank ∷ []) ≡ all_answers counter xs = flat_map-append (answers counter) xs (blank ∷ []) ∙ append-nil (all_answers counter xs) in
    record {
      left = h.left ∙ ap (λ l. minus start (length l)) (sym all);
      answered = subst (λ l. IsPermutation (lefts start (length l)) l) (sym all) h.answered;
      in_order = λ few. All-push (InOrder counter start) xs blank (h.in_order (subst (λ l. length l < 2 ^ 64) all few)) (λ k lt. absurd (omega arith));
    }
