-- How often numbers stand in lists.
use Rattle.std.proofs.Common.{eqb, Bool, true, false, cond, filter, inl, inr, ◌⊎◌, ◌≡◌, ◌≢◌, ℕ, zero, suc, ◌+◌, ◌-◌, ◌<◌, ◌≤◌, ◌==◌, List, [], ◌∷◌, ◌++◌, length, get_or, All, AllPairs, Contains, sum_by, arith, refl, sym, ◌∙◌, ap, eq-eqb}
use Rattle.std.specs.List.{range_with_len, remove, AllByRecursion, list_any}
use Rattle.std.specs.List.Sorted.{IsPermutation}
use Rattle.std.proofs.lemmas.Bool.{cases_lt, cases_eq, ne_eqb, or_cases, eqb-true}
use Rattle.std.proofs.lemmas.Bool.Decides.{Decides-eqb}
use Rattle.std.proofs.lemmas.Map.Made.{IsDistinct-from_AllPairs}
use Rattle.std.proofs.lemmas.Map.Steps.{length-le_from_distinct_below}
use Rattle.std.proofs.lemmas.List.Elements.{recursion_from_All}
use Rattle.std.proofs.lemmas.List.Sorted.{IsPermutation-refl, IsPermutation-sym, IsPermutation-cons, IsPermutation-trans, IsPermutation-remove, sum_by-IsPermutation}
use Rattle.std.proofs.lemmas.List.Sums.{sum_by-cons, sum_by-append, get_or-le-sum_by}
use Rattle.std.proofs.lemmas.List.FromFn.{length-range_with_len, get_or-range_with_len}
use Rattle.base.specs.Counts.{times, one_if}
use Rattle.base.proofs.Counts.{count-cons, count_none, range_apart, sum_alike, sum_added, sum_ones, sum_zeros}

pub times-append : (n : ℕ) (xs ys : List ℕ) → times n (xs ++ ys) ≡ times n xs + times n ys
times-append n xs ys = sum_by-append (λ x. one_if (x == n)) xs ys

-- one element more counts where it is the number
pub times-cons : (n x : ℕ) (xs : List ℕ) → times n (x ∷ xs) ≡ one_if (x == n) + times n xs
times-cons n x xs = count-cons (λ x. x == n) x xs

-- the number itself counts once, another not
pub one_if_here : (x n : ℕ) → x ≡ n → one_if (x == n) ≡ 1
one_if_here x n e = ap one_if (eq-eqb x n e)

pub one_if_elsewhere : (x n : ℕ) → x ≢ n → one_if (x == n) ≡ 0
one_if_elsewhere x n ne = ap one_if (ne_eqb x n ne)

pub times_none : (n : ℕ) (xs : List ℕ) → All (λ x. x ≢ n) xs → times n xs ≡ 0
times_none n xs h = count_none (λ x. x == n) xs (λ i d lt. ne_eqb (get_or xs i d) n (h i d lt))

-- a number that is counted stands there
pub found : (n : ℕ) (xs : List ℕ) → 0 < times n xs → Contains xs n
found n [] lt = absurd (let z : times n [] ≡ 0 = refl in omega arith)
found n (x ∷ xs) lt =
    elim (cases_eq x n) [
      | inl e ↦ (0, omega arith, e)
      | inr ne ↦
          let a = times-cons n x xs in
          let b = one_if_elsewhere x n ne in
          let rest = found n xs (omega arith) in
          (suc rest.0, (let l = rest.1 in omega arith), rest.2)
    ]

pub counted : (n : ℕ) (xs : List ℕ) → Contains xs n → 0 < times n xs
counted n xs has = omega (arith, get_or-le-sum_by (λ x. one_if (x == n)) xs has.0 n has.1, one_if_here (get_or xs has.0 n) n has.2)

-- where the elements differ, one that stands there stands there once
pub times_once : (n : ℕ) (xs : List ℕ) → AllPairs (λ a b. a ≢ b) xs → Contains xs n → times n xs ≡ 1
times_once n [] apart has = absurd (let lt = has.1 in omega arith)
times_once n (x ∷ xs) apart has =
    let a = times-cons n x xs in
    elim (cases_eq x n) [
      | inl e ↦
          let b = one_if_here x n e in
          let rest = times_none n xs (λ i d lt f. apart 0 (suc i) d (omega arith) (omega arith) (e ∙ sym f)) in
          omega arith
      | inr ne ↦
          let b = one_if_elsewhere x n ne in
          let rest = times_once n xs (λ i j d l m. apart (suc i) (suc j) d (omega arith) (omega arith)) (later ne has) in
          omega arith
    ]
  where
    later : x ≢ n → Contains (x ∷ xs) n → Contains xs n
    later ne (zero, lt, e) = absurd (ne e)
    later ne (suc k, lt, e) = (k, omega arith, e)

-- lists with equal counts have the same elements
pub same : (xs ys : List ℕ) → ((n : ℕ) → times n xs ≡ times n ys) → IsPermutation xs ys
same [] [] h = IsPermutation-refl []
same [] (y ∷ ys) h =
    let e = h y in
    let a = times-cons y y ys in
    let b = one_if_here y y refl in
    let z : times y [] ≡ 0 = refl in
    absurd (omega arith)
same (x ∷ xs) ys h =
    let stands = found x ys (let e = h x in let a = times-cons x x xs in let b = one_if_here x x refl in omega arith) in
    let moved = IsPermutation-remove ys stands.0 x stands.1 (sym stands.2) in
    let rest = same xs (remove ys stands.0) (λ n.
    let e = h n in
    let a = times-cons n x xs in
    let b = times-cons n x (remove ys stands.0) in
    let c : times n (x ∷ remove ys stands.0) ≡ times n ys = sum_by-IsPermutation (λ y. one_if (y == n)) ys (x ∷ remove ys stands.0) moved in
    omega arith) in
    IsPermutation-trans (x ∷ xs) (x ∷ remove ys stands.0) ys (IsPermutation-cons x xs (remove ys stands.0) rest) (IsPermutation-sym ys (x ∷ remove ys stands.0) moved)

-- a range has each of its numbers once
pub out_of_range : (i a n : ℕ) → (i < a) ⊎ (a + n ≤ i) → times i (range_with_len a n) ≡ 0
out_of_range i a n out =
    times_none i (range_with_len a n) (λ k d lt e.
    let is = get_or-range_with_len a n k d (omega (arith, lt, length-range_with_len a n)) in
    omega (arith, out, e, is, lt, length-range_with_len a n))

pub in_range : (i a n : ℕ) → a ≤ i → i < a + n → times i (range_with_len a n) ≡ 1
in_range i a n le lt =
    let short : i - a < n = omega arith in
    let here : get_or (range_with_len a n) (i - a) i ≡ i = omega (arith, get_or-range_with_len a n (i - a) i short) in
    times_once i (range_with_len a n) (range_apart a n) (i - a, omega (arith, short, length-range_with_len a n), here)

-- a filter keeps all of a number that passes, and none of another
pub times_filter : (p : ℕ → Bool) (n : ℕ) (xs : List ℕ) → times n (filter p xs) ≡ cond (p n) (times n xs) 0
times_filter p n [] = none (p n)
  where
    none : (b : Bool) → ◌≡◌ {A = ℕ} 0 (cond b 0 0)
    none true = refl
    none false = refl
times_filter p n (x ∷ xs) =
    elim (cases_eq x n) [
      | inl e ↦ same (p x) (p n) (ap p e) e (times_filter p n xs)
      | inr ne ↦ other (p x) (p n) ne (times_filter p n xs)
    ]
  where
    same : (b d : Bool) → b ≡ d → x ≡ n → times n (filter p xs) ≡ cond d (times n xs) 0 → times n (cond b (x ∷ filter p xs) (filter p xs)) ≡ cond d (times n (x ∷ xs)) 0
    same true true e is rest = let a = times-cons n x (filter p xs) in let b = times-cons n x xs in omega arith
    same true false e is rest = absurd (cc)
    same false true e is rest = absurd (cc)
    same false false e is rest = rest

    other : (b d : Bool) → x ≢ n → times n (filter p xs) ≡ cond d (times n xs) 0 → times n (cond b (x ∷ filter p xs) (filter p xs)) ≡ cond d (times n (x ∷ xs)) 0
    other true true ne rest = let a = times-cons n x (filter p xs) in let b = times-cons n x xs in let z = one_if_elsewhere x n ne in omega arith
    other true false ne rest = let a = times-cons n x (filter p xs) in let z = one_if_elsewhere x n ne in omega arith
    other false true ne rest = let b = times-cons n x xs in let z = one_if_elsewhere x n ne in omega arith
    other false false ne rest = rest

pub each_once : (n : ℕ) (xs : List ℕ) → All (λ x. x < n) xs → ((i : ℕ) → i < n → times i xs ≡ 1) → IsPermutation (range_with_len 0 n) xs
each_once n xs within once = same (range_with_len 0 n) xs (λ i.
    elim (cases_lt i n) [
      | inl lt ↦ let a = in_range i 0 n (omega arith) (omega arith) in let b = once i lt in omega arith
      | inr ge ↦
          let a = out_of_range i 0 n (inr (omega arith)) in
          let b = times_none i xs (λ k d lk e. let lt = within k d lk in omega arith) in
          omega arith
    ])

flips : (x y : ℕ) → one_if (x == y) ≡ one_if (y == x)
flips x y =
    elim (cases_eq x y) [
      | inl e ↦ one_if_here x y e ∙ sym (one_if_here y x (sym e))
      | inr ne ↦ one_if_elsewhere x y ne ∙ sym (one_if_elsewhere y x (λ e. ne (sym e)))
    ]

pub from_both_sides : (xs ys : List ℕ) → sum_by (λ x. times x ys) xs ≡ sum_by (λ y. times y xs) ys
from_both_sides [] ys = sym (sum_zeros (λ y. times y []) ys (λ i d lt. refl))
from_both_sides (x ∷ xs) ys =
    let a = sum_by-cons (λ x. times x ys) x xs in
    let rest = from_both_sides xs ys in
    let split = sum_alike (λ y. times y (x ∷ xs)) (λ y. one_if (x == y) + times y xs) ys (λ i d lt. times-cons (get_or ys i d) x xs) in
    let added = sum_added (λ y. one_if (x == y)) (λ y. times y xs) ys in
    let flipped : times x ys ≡ sum_by (λ y. one_if (x == y)) ys = sum_alike (λ y. one_if (y == x)) (λ y. one_if (x == y)) ys (λ i d lt. flips (get_or ys i d) x) in
    omega arith

pub of_all_below : (n : ℕ) (xs : List ℕ) → All (λ x. x < n) xs → sum_by (λ i. times i xs) (range_with_len 0 n) ≡ length xs
of_all_below n xs within =
    from_both_sides (range_with_len 0 n) xs
    ∙ sum_ones (λ x. times x (range_with_len 0 n)) xs (λ i d lt. in_range (get_or xs i d) 0 n (omega arith) (let l = within i d lt in omega arith))

-- numbers below n that differ are n at most
pub length_of_distinct_below : (n : ℕ) (xs : List ℕ) → AllPairs (λ a b. a ≢ b) xs → All (λ x. x < n) xs → length xs ≤ n
length_of_distinct_below n xs apart within =
    length-le_from_distinct_below xs n (IsDistinct-from_AllPairs Decides-eqb xs apart) (any_below n xs (recursion_from_All (λ s. s < n) xs within))
  where
    any_below : (n : ℕ) (cells : List ℕ) → AllByRecursion (λ s. s < n) cells → (q : ℕ) → list_any (eqb q) cells ≡ true → q < n
    any_below n [] h q e = absurd (cc)
    any_below n (s ∷ cells) h q e =
        elim (or_cases (eqb q s) (list_any (eqb q) cells) e) [
          | inl here ↦ (let same = eqb-true q s here in let lt = h.0 in omega (arith, same, lt))
          | inr there ↦ any_below n cells h.1 q there
        ]
