-- Sums over lists in which one element changes, and how often a number stands in some parts.
use Rattle.std.proofs.Common.{◌≡◌, ◌≢◌, ℕ, zero, suc, ◌+◌, ◌<◌, ◌≤◌, ◌==◌, List, [], ◌∷◌, ◌++◌, length, get_or, set, replicate, sum_by, cond, refl, sym, ap, ◌∙◌, eq-eqb, ne_eqb, arith}
use mathlib.Core.Option.{some, some-ne-none, some-injective}
use lib.ListN.{get_elem?}
use Rattle.std.proofs.lemmas.List.Sums.{sum_by-cons, sum_by-append}
use Rattle.frontier_pool.specs.declared.rule.ClaimList.{ClaimList}
use Rattle.frontier_pool.specs.inside.ClaimProtocol.{times_in, with_first_items}
use Rattle.base.specs.Counts.{times}

-- one summand is replaced
pub sum_by-replaced : {X : Type 0} (f : X → ℕ) (xs : List X) (i : ℕ) (a b : X) → get_elem? xs i ≡ some a → sum_by f (set xs i b) + f a ≡ sum_by f xs + f b
sum_by-replaced f [] i a b worker = absurd (some-ne-none a (sym worker))
sum_by-replaced f (x ∷ xs) zero a b worker =
    let same : f x ≡ f a = ap f (some-injective x a worker) in
    omega (arith, sum_by-cons f b xs, sum_by-cons f x xs)
sum_by-replaced f (x ∷ xs) (suc i) a b worker = omega (arith, sum_by-cons f x (set xs i b), sum_by-cons f x xs, sum_by-replaced f xs i a b worker)

-- a bound on each element, where one is replaced
pub within-set : (xs : List ℕ) (i x : ℕ) → x ≤ 1 → ((n : ℕ) → get_or xs n 0 ≤ 1) → (n : ℕ) → get_or (set xs i x) n 0 ≤ 1
within-set [] i x small h n = h n
within-set (y ∷ ys) zero x small h zero = small
within-set (y ∷ ys) zero x small h (suc n) = h (suc n)
within-set (y ∷ ys) (suc i) x small h zero = h zero
within-set (y ∷ ys) (suc i) x small h (suc n) = within-set ys i x small (λ k. h (suc k)) n

pub zeros_read : (n k : ℕ) → let nothing : ℕ = 0 in get_or (replicate n nothing) k nothing ≡ nothing
zeros_read zero k = refl
zeros_read (suc n) zero = refl
zeros_read (suc n) (suc k) = zeros_read n k

-- the first part has some items besides
pub times_in-longer : (n : ℕ) (claim_lists : List ClaimList) (more : List ℕ) → 0 < length claim_lists → times_in n (with_first_items claim_lists more) ≡ times_in n claim_lists + times n more
times_in-longer n [] more some_claim_list = absurd (omega arith)
times_in-longer n (p ∷ claim_lists) more some_claim_list =
    let q : ClaimList = record { items = p.items ++ more } in
    omega (arith, sum_by-cons (λ (r : ClaimList). times n r.items) q claim_lists, sum_by-cons (λ (r : ClaimList). times n r.items) p claim_lists, sum_by-append (λ x. cond (x == n) 1 0) p.items more)

pub times-itself : (n : ℕ) → times n (n ∷ []) ≡ 1
times-itself n = sum_by-cons (λ x. cond (x == n) 1 0) n [] ∙ ap (λ b. cond b 1 0 + 0) (eq-eqb n n refl)

pub times-other : (n k : ℕ) → k ≢ n → times n (k ∷ []) ≡ 0
times-other n k apart = sum_by-cons (λ x. cond (x == n) 1 0) k [] ∙ ap (λ b. cond b 1 0 + 0) (ne_eqb k n apart)

pub length-longer : (claim_lists : List ClaimList) (more : List ℕ) → length (with_first_items claim_lists more) ≡ length claim_lists
length-longer [] more = refl
length-longer (p ∷ claim_lists) more = refl
