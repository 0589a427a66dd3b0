-- What a step does to lawful accounts of a minimum.
use Rattle.std.proofs.Common.{◌≡◌, ◌≢◌, ℕ, zero, suc, ◌+◌, ◌^◌, ◌<◌, ◌≤◌, ◌==◌, false, cond, List, [], ◌∷◌, ◌++◌, length, drop, min, eq-eqb, ne_eqb, refl, sym, ap, ◌∙◌, subst, arith, All, Contains, IsPermutation, length-append}
use mathlib.Core.Logic.{dite}
use native.Mathlib.Decide.{dec_le, dec_lt, ℕ_discrete}
use Rattle.std.proofs.lemmas.List.{append-nil, length-map}
use Rattle.std.proofs.lemmas.List.Concat.{flat_map-append}
use Rattle.std.proofs.lemmas.List.Sums.{sum_by-cons, count_by-le-length}
use Rattle.std.proofs.lemmas.List.Elements.{All-cons, All-head, All-tail, All-push, All-nil, All-weaker}
use Rattle.std.proofs.lemmas.List.Sorted.{IsPermutation-refl, IsPermutation-cons, IsPermutation-map, All-permutation, Contains-permutation, sum_by-IsPermutation, length_permutation}
use Rattle.cell_counters.specs.declared.account.TheConstants.{NONE}
use Rattle.cell_counters.specs.declared.account.Offer.{Offer}
use Rattle.cell_counters.specs.declared.account.Account.{Account}
use Rattle.cell_counters.specs.Accounts.{offers_on, all_offers, values, first_count, NoneIsFirst, IsLeastOf, IsLawfulLeast}
use Rattle.cell_counters.specs.BoardModels.{blank}
use Rattle.cell_counters.specs.inside.BoardProtocol.{Stands}
use Rattle.cell_counters.proofs.Parts.{Replaced, entries_were, entries_stay, entries_grow, All-after}
use Rattle.base.specs.Counts.{one_if}

-- of an account only the earliest offer may be first
abbrev pub OnlyEarliest : ℕ → Account → Type 0
OnlyEarliest word a = NoneIsFirst (drop 1 (offers_on word a))

-- the least of some numbers, in another order
pub least_moved : (xs ys : List ℕ) (n : ℕ) → IsPermutation xs ys → IsLeastOf xs n → IsLeastOf ys n
least_moved xs ys n same h = (Contains-permutation xs ys n same h.0, All-permutation (λ m. n ≤ m) xs ys same h.1)

-- the least of some numbers and one more
pub least_more : (s k : ℕ) (xs : List ℕ) (n : ℕ) → IsLeastOf (s ∷ xs) n → IsLeastOf (s ∷ k ∷ xs) (min n k)
least_more s k xs n h =
    let first : n ≤ s = All-head (λ m. n ≤ m) s xs h.1 in
    let others : All (λ m. n ≤ m) xs = All-tail (λ m. n ≤ m) s xs h.1 in
    let below : All (λ m. min n k ≤ m) (s ∷ k ∷ xs) =
    All-cons (λ m. min n k ≤ m) s (k ∷ xs) (omega arith) (All-cons (λ m. min n k ≤ m) k xs (omega arith) (All-weaker (λ m. n ≤ m) (λ m. min n k ≤ m) (λ m le. omega arith) xs others)) in (
      dite (dec_le n k)
          (λ (le : n ≤ k). let is : min n k ≡ n = omega arith in subst (Contains (s ∷ k ∷ xs)) (sym is) (among h.0))
          (λ (more : ¬ (n ≤ k)). let is : min n k ≡ k = omega arith in subst (Contains (s ∷ k ∷ xs)) (sym is) (1, omega arith, refl)),
      below,
    )
  where
    among : Contains (s ∷ xs) n → Contains (s ∷ k ∷ xs) n
    among (zero, lt, e) = (0, omega arith, e)
    among (suc i, lt, e) = (suc (suc i), omega arith, e)

-- with no account nothing was offered
pub least_begins : (word start : ℕ) → IsLawfulLeast [] word start start
least_begins word start =
    record { least = ((0, omega arith, refl), All-cons (λ m. start ≤ m) start [] (omega arith) (All-nil (λ m. start ≤ m))); one_first = λ free some. absurd (omega arith); none_first = λ taken. refl; earliest = All-nil (OnlyEarliest word) }

pub word_begins : (word start : ℕ) → start < 2 ^ 64 → Stands [] word start start
word_begins word start small = record { lawful = least_begins word start; offered = λ some. absurd (omega arith); taken = λ apart. omega arith }

-- the offers are the same, maybe in another order
pub word_moved : (xs ys : List Account) (word start now : ℕ) → All (OnlyEarliest word) ys → IsPermutation (all_offers word xs) (all_offers word ys) → Stands xs word start now → Stands ys word start now
word_moved xs ys word start now earliest same h =
    let count : length (all_offers word ys) ≡ length (all_offers word xs) = length_permutation (all_offers word xs) (all_offers word ys) same in
    let firsts : first_count (all_offers word ys) ≡ first_count (all_offers word xs) = sum_by-IsPermutation (λ (o : Offer). cond o.first 1 0) (all_offers word xs) (all_offers word ys) same in
    record {
      lawful = record {
        least = least_moved (start ∷ values (all_offers word xs)) (start ∷ values (all_offers word ys)) now (IsPermutation-cons start (values (all_offers word xs)) (values (all_offers word ys)) (IsPermutation-map (λ (o : Offer). o.value) (all_offers word xs) (all_offers word ys) same)) h.lawful.least;
        one_first = λ free some. firsts ∙ h.lawful.one_first free (omega arith);
        none_first = λ taken. firsts ∙ h.lawful.none_first taken;
        earliest = earliest;
      };
      offered = λ some. h.offered (omega arith);
      taken = h.taken;
    }

-- a step that adds no offer on this word
pub word_stays : (xs ys : List Account) (a b : Account) (word start now : ℕ) → Replaced xs ys a b → offers_on word b ≡ offers_on word a → Stands xs word start now → Stands ys word start now
word_stays xs ys a b word start now r same h =
    let all : all_offers word xs ≡ all_offers word ys = sym (entries_stay (offers_on word) xs ys a b r same) in
    let earliest : All (OnlyEarliest word) ys = All-after (OnlyEarliest word) xs ys a b r (subst (λ l. NoneIsFirst (drop 1 l)) (sym same)) h.lawful.earliest in
    word_moved xs ys word start now earliest (subst (IsPermutation (all_offers word xs)) all (IsPermutation-refl (all_offers word xs))) h

-- one more account, of who has done nothing
pub word_welcomes : (xs : List Account) (word start now : ℕ) → Stands xs word start now → Stands (xs ++ blank ∷ []) word start now
word_welcomes xs word start now h =
    let all : all_offers word xs ≡ all_offers word (xs ++ blank ∷ []) = sym (flat_map-append (offers_on word) xs (blank ∷ []) ∙ append-nil (all_offers word xs)) in
    word_moved xs (xs ++ blank ∷ []) word start now (All-push (OnlyEarliest word) xs blank h.lawful.earliest (λ k d lt. absurd (omega arith))) (subst (IsPermutation (all_offers word xs)) all (IsPermutation-refl (all_offers word xs))) h

one_if_free : (n : ℕ) → n ≡ NONE → one_if (n == NONE) ≡ 1
one_if_free n e = ap one_if (eq-eqb n NONE e)

one_if_taken : (n : ℕ) → n ≢ NONE → one_if (n == NONE) ≡ 0
one_if_taken n apart = ap one_if (ne_eqb n NONE apart)

-- the least of one number
least_of_one : (s n : ℕ) (xs : List ℕ) → length xs ≡ 0 → IsLeastOf (s ∷ xs) n → s ≡ n
least_of_one s n [] len h = only h.0
  where
    only : Contains (s ∷ []) n → s ≡ n
    only (zero, lt, e) = e
    only (suc i, lt, e) = absurd (omega arith)
least_of_one s n (x ∷ xs) len h = absurd (omega arith)

-- one more offer, which is not first unless it is the only one
earliest_push : (os : List Offer) (o : Offer) → NoneIsFirst (drop 1 os) → (0 < length os → o.first ≡ false) → NoneIsFirst (drop 1 (os ++ o ∷ []))
earliest_push [] o none later = All-nil (λ (p : Offer). p.first ≡ false)
earliest_push (x ∷ xs) o none later = All-push (λ (p : Offer). p.first ≡ false) xs o none (later (omega arith))

-- an account's offers are among all
own_within : (xs ys : List Account) (a b : Account) (word : ℕ) → Replaced xs ys a b → length (offers_on word a) ≤ length (all_offers word xs)
own_within xs ys a b word r =
    let F = all_offers word r.front in
    let R = all_offers word r.back in
    omega (arith, ap length (entries_were (offers_on word) xs ys a b r), length-append F (offers_on word a ++ R), length-append (offers_on word a) R)

-- an offer on this word
pub word_offered : (xs ys : List Account) (a b : Account) (word start now value : ℕ) → Replaced xs ys a b → offers_on word b ≡ offers_on word a ++ record { word = word; value = value; first = now == NONE } ∷ [] → value < NONE → Stands xs word start now
    → Stands ys word start (min now value)
word_offered xs ys a b word start now value r more small h =
    let o : Offer = record { word = word; value = value; first = now == NONE } in
    let G = offers_on word a in
    let grown : IsPermutation (o ∷ all_offers word xs) (all_offers word ys) = entries_grow (offers_on word) xs ys a b r o more in
    let firsts : first_count (all_offers word ys) ≡ one_if (now == NONE) + first_count (all_offers word xs) =
    sum_by-IsPermutation (λ (p : Offer). one_if p.first) (o ∷ all_offers word xs) (all_offers word ys) grown ∙ sum_by-cons (λ (p : Offer). one_if p.first) o (all_offers word xs) in
    let earlier : 0 < length G → 0 < length (all_offers word xs) = (λ some. let within = own_within xs ys a b word r in omega arith) in
    let not_first : now < NONE → first_count (all_offers word ys) ≡ first_count (all_offers word xs) =
    (λ lt. let none : one_if (now == NONE) ≡ 0 = one_if_taken now (λ e. absurd (omega arith)) in omega (arith, firsts)) in
    record {
      lawful = record {
        least = least_moved (start ∷ value ∷ values (all_offers word xs)) (start ∷ values (all_offers word ys)) (min now value)
            (IsPermutation-cons start (value ∷ values (all_offers word xs)) (values (all_offers word ys)) (IsPermutation-map (λ (p : Offer). p.value) (o ∷ all_offers word xs) (all_offers word ys) grown))
            (least_more start value (values (all_offers word xs)) now h.lawful.least);
        one_first = λ free some. dite (dec_lt 0 (length (all_offers word xs)))
            (λ (more : 0 < length (all_offers word xs)). not_first (h.offered more) ∙ h.lawful.one_first free more)
            (λ (none : ¬ (0 < length (all_offers word xs))).
            let empty : length (values (all_offers word xs)) ≡ 0 = length-map (all_offers word xs) (λ (p : Offer). p.value) ∙ omega arith in
            let mine : one_if (now == NONE) ≡ 1 = one_if_free now (sym (least_of_one start now (values (all_offers word xs)) empty h.lawful.least) ∙ free) in
            let others : first_count (all_offers word xs) ≤ length (all_offers word xs) = count_by-le-length (λ (p : Offer). p.first) (all_offers word xs) in
            omega (arith, firsts));
        none_first = λ taken. not_first (h.taken taken) ∙ h.lawful.none_first taken;
        earliest = All-after (OnlyEarliest word) xs ys a b r
            (λ none. subst (λ l. NoneIsFirst (drop 1 l)) (sym more) (earliest_push G o none (λ some. ne_eqb now NONE (λ e. let lt : now < NONE = h.offered (earlier some) in absurd (omega arith)))))
            h.lawful.earliest;
      };
      offered = λ some. omega arith;
      taken = λ apart. omega arith;
    }

-- an offer that found the word free: the word began free, and the account has no earlier offer on it
pub found_free : (xs ys : List Account) (a b : Account) (word start now : ℕ) → Replaced xs ys a b → Stands xs word start now → now ≡ NONE → (start ≡ NONE) × (offers_on word a ≡ [])
found_free xs ys a b word start now r h free =
    let within = own_within xs ys a b word r in (
      dite (ℕ_discrete start NONE) (λ (e : start ≡ NONE). e) (λ (apart : start ≢ NONE). let lt : now < NONE = h.taken apart in absurd (omega arith)),
      none (offers_on word a) (λ some. let lt : now < NONE = h.offered (omega arith) in omega arith),
    )
  where
    none : (os : List Offer) → ¬ (0 < length os) → os ≡ []
    none [] apart = refl
    none (o ∷ os) apart = absurd (apart (omega arith))
