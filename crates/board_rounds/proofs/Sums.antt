-- Sums and counts over maps, filters and lists in parts.
use Rattle.std.proofs.Common.{◌≡◌, ℕ, ◌+◌, ◌<◌, ◌&&◌, Bool, true, false, cond, List, [], ◌∷◌, map, filter, get_or, All, count_by, sum_by, arith, refl, sym, ◌∙◌}
use Rattle.std.specs.List.{flat_map, range_with_len}
use Rattle.std.proofs.lemmas.List.FromFn.{length-range_with_len, get_or-range_with_len}
use Rattle.std.proofs.lemmas.List.Sums.{sum_by-cons, sum_by-append}
use Rattle.game_core.specs.Counts.{one_if}
use Rattle.base.proofs.Counts.{count-cons, sum_map, count_same}

pub count_map : {X Y : Type 0} (p : Y → Bool) (h : X → Y) (xs : List X) → count_by p (map h xs) ≡ count_by (λ x. p (h x)) xs
count_map p h xs = sum_map (λ y. one_if (p y)) h xs

pub count_filter : {X : Type 0} (p q : X → Bool) (xs : List X) → count_by p (filter q xs) ≡ count_by (λ x. q x && p x) xs
count_filter p q [] = refl
count_filter p q (x ∷ xs) = by_test (q x) (count_filter p q xs) ∙ sym (count-cons (λ x. q x && p x) x xs)
  where
    by_test : (b : Bool) → count_by p (filter q xs) ≡ count_by (λ x. q x && p x) xs → count_by p (cond b (x ∷ filter q xs) (filter q xs)) ≡ one_if (b && p x) + count_by (λ x. q x && p x) xs
    by_test true e = let a = count-cons p x (filter q xs) in omega arith
    by_test false e = omega arith

-- a sum over lists in parts
pub sum_flat : {X Y : Type 0} (f : Y → ℕ) (h : X → List Y) (xs : List X) → sum_by f (flat_map h xs) ≡ sum_by (λ x. sum_by f (h x)) xs
sum_flat f h [] = refl
sum_flat f h (x ∷ xs) =
    omega (arith, sum_by-append f (h x) (flat_map h xs), sum_by-cons (λ x. sum_by f (h x)) x xs, sum_flat f h xs)

and_comm : (a b : Bool) → (a && b) ≡ (b && a)
and_comm true true = refl
and_comm true false = refl
and_comm false true = refl
and_comm false false = refl

-- two filters, one after the other, in either order
pub count_both : {X : Type 0} (p q : X → Bool) (xs : List X) → count_by p (filter q xs) ≡ count_by q (filter p xs)
count_both p q xs = count_filter p q xs ∙ (count_same (λ x. q x && p x) (λ x. p x && q x) xs (λ i d lt. and_comm (q (get_or xs i d)) (p (get_or xs i d))) ∙ sym (count_filter q p xs))

-- where a number came, a test passes that didn't pass before
pub fresh : (b n : Bool) (k : ℕ) → 0 < k → k + one_if b ≡ one_if n → (b ≡ false) × (n ≡ true)
fresh true true k lt e = absurd (omega arith)
fresh true false k lt e = absurd (omega arith)
fresh false true k lt e = (refl, refl)
fresh false false k lt e = absurd (omega arith)

-- a number of a range
pub All-range : (n : ℕ) → All (λ i. i < n) (range_with_len 0 n)
All-range n i d lt =
    let len = length-range_with_len 0 n in
    let at = get_or-range_with_len 0 n i d (omega arith) in
    omega arith
