-- How many numbers pass a test, and sums over ranges in parts.
use Rattle.std.proofs.Common.{◌≡◌, ℕ, zero, suc, ◌+◌, ◌*◌, ◌==◌, ◌||◌, nat_lt, Bool, true, false, List, [], ◌∷◌, count_by, sum_by, arith, refl, sym, ◌∙◌, ap}
use Rattle.std.specs.List.{list_any, range_with_len}
use Rattle.std.proofs.Math.Nat.{suc-mul}
use Rattle.std.proofs.lemmas.Bool.{lt-ltb}
use Rattle.std.proofs.lemmas.List.Sums.{sum_by-cons}
use Rattle.game_core.specs.Counts.{times, one_if}
use Rattle.base.proofs.Counts.{count-cons}

-- some element passes exactly where the count isn't 0
pub any_counts : (p : ℕ → Bool) (xs : List ℕ) → list_any p xs ≡ nat_lt 0 (count_by p xs)
any_counts p [] = refl
any_counts p (x ∷ xs) = by_test (p x) refl (any_counts p xs)
  where
    by_test : (b : Bool) → p x ≡ b → list_any p xs ≡ nat_lt 0 (count_by p xs) → (b || list_any p xs) ≡ nat_lt 0 (count_by p (x ∷ xs))
    by_test true f later =
        let a = count-cons p x xs in
        let b : one_if (p x) ≡ 1 = ap one_if f in
        sym (lt-ltb 0 (count_by p (x ∷ xs)) (omega arith))
    by_test false f later =
        let a = count-cons p x xs in
        let b : one_if (p x) ≡ 0 = ap one_if f in
        later ∙ ap (nat_lt 0) {x = count_by p xs} {y = count_by p (x ∷ xs)} (omega arith)

pub times_single : (n x : ℕ) → times n (x ∷ []) ≡ one_if (x == n)
times_single n x =
    omega arith

-- a sum over a range in two parts
pub range_split : (f : ℕ → ℕ) (a n m : ℕ) → sum_by f (range_with_len a (n + m)) ≡ sum_by f (range_with_len a n) + sum_by f (range_with_len (a + n) m)
range_split f a zero m =
    let all : sum_by f (range_with_len a (zero + m)) ≡ sum_by f (range_with_len a m) = ap (λ k. sum_by f (range_with_len a k)) {x = zero + m} {y = m} (omega arith) in
    let rest : sum_by f (range_with_len (a + zero) m) ≡ sum_by f (range_with_len a m) = ap (λ k. sum_by f (range_with_len k m)) {x = a + zero} {y = a} (omega arith) in
    omega arith
range_split f a (suc n) m =
    let all : sum_by f (range_with_len a (suc n + m)) ≡ sum_by f (range_with_len a (suc (n + m))) = ap (λ k. sum_by f (range_with_len a k)) {x = suc n + m} {y = suc (n + m)} (omega arith) in
    let long = sum_by-cons f a (range_with_len (a + 1) (n + m)) in
    let short = sum_by-cons f a (range_with_len (a + 1) n) in
    let parts = range_split f (a + 1) n m in
    let rest : sum_by f (range_with_len (a + suc n) m) ≡ sum_by f (range_with_len (a + 1 + n) m) = ap (λ k. sum_by f (range_with_len k m)) {x = a + suc n} {y = a + 1 + n} (omega arith) in
    omega arith

pub count_more : (p : ℕ → Bool) (a n : ℕ) → count_by p (range_with_len a (n + 1)) ≡ count_by p (range_with_len a n) + one_if (p (a + n))
count_more p a n =
    omega (arith, range_split (λ x. one_if (p x)) a n 1)

-- a range that begins later
pub range_shift : (f : ℕ → ℕ) (n b m : ℕ) → sum_by (λ c. f (n + c)) (range_with_len b m) ≡ sum_by f (range_with_len (n + b) m)
range_shift f n b zero = refl
range_shift f n b (suc m) =
    let first = sum_by-cons (λ c. f (n + c)) b (range_with_len (b + 1) m) in
    let second = sum_by-cons f (n + b) (range_with_len (n + b + 1) m) in
    let rest = range_shift f n (b + 1) m in
    let same : sum_by f (range_with_len (n + (b + 1)) m) ≡ sum_by f (range_with_len (n + b + 1) m) = ap (λ k. sum_by f (range_with_len k m)) {x = n + (b + 1)} {y = n + b + 1} (omega arith) in
    omega arith

-- a sum over ranges of one length, one after the other
pub range_rows : (f : ℕ → ℕ) (k b n : ℕ) → sum_by (λ c. sum_by f (range_with_len (c * k) k)) (range_with_len b n) ≡ sum_by f (range_with_len (b * k) (n * k))
range_rows f k b zero = let z : sum_by f (range_with_len (b * k) (zero * k)) ≡ sum_by f (range_with_len (b * k) 0) = ap (λ m. sum_by f (range_with_len (b * k) m)) {x = zero * k} {y = 0} (omega arith) in sym z
range_rows f k b (suc n) =
    let first = sum_by-cons (λ c. sum_by f (range_with_len (c * k) k)) b (range_with_len (b + 1) n) in
    let rest = range_rows f k (b + 1) n in
    let next = suc-mul b k in
    let from : sum_by f (range_with_len ((b + 1) * k) (n * k)) ≡ sum_by f (range_with_len (b * k + k) (n * k)) = ap (λ m. sum_by f (range_with_len m (n * k))) {x = (b + 1) * k} {y = b * k + k} (ap (λ m. m * k) {x = b + 1} {y = suc b} (omega arith) ∙ next) in
    let all : sum_by f (range_with_len (b * k) (suc n * k)) ≡ sum_by f (range_with_len (b * k) (k + n * k)) = ap (λ m. sum_by f (range_with_len (b * k) m)) {x = suc n * k} {y = k + n * k} (omega arith) in
    let parts = range_split f (b * k) k (n * k) in
    omega arith
