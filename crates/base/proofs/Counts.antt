-- Sums over lists, and how many elements pass a test.
use Rattle.std.proofs.Common.{◌≤◌, ◌&&◌, subst, ◌≡◌, ◌≢◌, ℕ, zero, suc, ◌+◌, ◌<◌, Bool, true, false, List, [], ◌∷◌, map, length, get_or, All, AllPairs, Contains, count_by, sum_by, arith, refl, sym, ◌∙◌, ap}
use Rattle.std.proofs.lemmas.List.Elements.{All-head, All-tail, All-nil, All-cons}
use Rattle.std.specs.List.{Any, list_any, list_all, range_with_len}
use Rattle.std.proofs.lemmas.List.FromFn.{length-range_with_len, get_or-range_with_len, fill_by_all}
use Rattle.std.proofs.lemmas.List.Sums.{sum_by-cons, sum_by-le, sum_by-le-sum_by}
use Rattle.base.specs.Counts.{one_if}
use Rattle.std.proofs.lemmas.Bool.{or_parts, false≢true}

-- one element more
pub count-cons : {X : Type 0} (p : X → Bool) (x : X) (xs : List X) → count_by p (x ∷ xs) ≡ one_if (p x) + count_by p xs
count-cons p x xs = sum_by-cons (λ y. one_if (p y)) x xs

-- sums of terms in order, of equal terms, of ones, of zeros and of added terms
pub sum_le : {X : Type 0} (f h : X → ℕ) (xs : List X) → All (λ x. f x ≤ h x) xs → sum_by f xs ≤ sum_by h xs
sum_le f h [] e = omega arith
sum_le f h (x ∷ xs) e =
    let a = sum_by-cons f x xs in
    let b = sum_by-cons h x xs in
    let first = All-head (λ x. f x ≤ h x) x xs e in
    let rest = sum_le f h xs (All-tail (λ x. f x ≤ h x) x xs e) in
    omega arith

pub sum_alike : {X : Type 0} (f h : X → ℕ) (xs : List X) → All (λ x. f x ≡ h x) xs → sum_by f xs ≡ sum_by h xs
sum_alike f h xs e =
    let up = sum_le f h xs (λ i d lt. let same = e i d lt in omega arith) in
    let down = sum_le h f xs (λ i d lt. let same = e i d lt in omega arith) in
    omega arith

pub sum_ones : {X : Type 0} (f : X → ℕ) (xs : List X) → All (λ x. f x ≡ 1) xs → sum_by f xs ≡ length xs
sum_ones f [] e = refl
sum_ones f (x ∷ xs) e =
    let a = sum_by-cons f x xs in
    let first = All-head (λ x. f x ≡ 1) x xs e in
    let rest = sum_ones f xs (All-tail (λ x. f x ≡ 1) x xs e) in
    omega arith

pub sum_zeros : {X : Type 0} (f : X → ℕ) (xs : List X) → All (λ x. f x ≡ 0) xs → sum_by f xs ≡ 0
sum_zeros f xs e = omega (arith, sum_by-le f 0 xs (λ i d lt. let none = e i d lt in omega arith))

pub sum_added : {X : Type 0} (f h : X → ℕ) (xs : List X) → sum_by (λ x. f x + h x) xs ≡ sum_by f xs + sum_by h xs
sum_added f h [] = refl
sum_added f h (x ∷ xs) =
    let a = sum_by-cons f x xs in
    let b = sum_by-cons h x xs in
    let c = sum_by-cons (λ x. f x + h x) x xs in
    let rest = sum_added f h xs in
    omega arith

pub sum_map : {X Y : Type 0} (f : Y → ℕ) (h : X → Y) (xs : List X) → sum_by f (map h xs) ≡ sum_by (λ x. f (h x)) xs
sum_map f h [] = refl
sum_map f h (x ∷ xs) =
    let a = sum_by-cons f (h x) (map h xs) in
    let b = sum_by-cons (λ x. f (h x)) x xs in
    let rest = sum_map f h xs in
    omega arith

-- a sum over the positions of a list
pub sum_positions : {X : Type 0} (f : X → ℕ) (d : X) (xs : List X) → sum_by (λ i. f (get_or xs i d)) (range_with_len 0 (length xs)) ≡ sum_by f xs
sum_positions f d xs =
    let all = fill_by_all (λ i. get_or xs i d) xs (length xs) d refl (λ k lt. refl) in
    sym (sum_map f (λ i. get_or xs i d) (range_with_len 0 (length xs))) ∙ ap (sum_by f) (sym all)

-- tests that agree on the elements count alike
pub count_same : {X : Type 0} (p q : X → Bool) (xs : List X) → All (λ x. p x ≡ q x) xs → count_by p xs ≡ count_by q xs
count_same p q xs h = sum_alike (λ x. one_if (p x)) (λ x. one_if (q x)) xs (λ i d lt. ap one_if (h i d lt))

-- a test that fails at each element counts none
pub count_none : {X : Type 0} (p : X → Bool) (xs : List X) → All (λ x. p x ≡ false) xs → count_by p xs ≡ 0
count_none p xs h = sum_zeros (λ x. one_if (p x)) xs (λ i d lt. ap one_if (h i d lt))

-- a test that passes wherever another does, and no more often, passes alike
pub one_if_le : (a b : Bool) → (a ≡ true → b ≡ true) → one_if a ≤ one_if b
one_if_le true b h = let e : one_if b ≡ 1 = ap one_if (h refl) in omega arith
one_if_le false b h = omega arith

pub one_if_same : (a b : Bool) → one_if a ≡ one_if b → a ≡ b
one_if_same true true e = refl
one_if_same true false e = absurd (omega arith)
one_if_same false true e = absurd (omega arith)
one_if_same false false e = refl

pub alike_from_counts : {X : Type 0} (p q : X → Bool) → ((x : X) → p x ≡ true → q x ≡ true) → (xs : List X) → count_by q xs ≤ count_by p xs → All (λ x. p x ≡ q x) xs
alike_from_counts p q more [] le = All-nil (λ x. p x ≡ q x)
alike_from_counts p q more (x ∷ xs) le =
    let a = count-cons p x xs in
    let b = count-cons q x xs in
    let here = one_if_le (p x) (q x) (more x) in
    let rest : count_by p xs ≤ count_by q xs = sum_by-le-sum_by (λ x. one_if (p x)) (λ x. one_if (q x)) xs (λ x. one_if_le (p x) (q x) (more x)) in
    All-cons (λ x. p x ≡ q x) x xs (one_if_same (p x) (q x) (omega arith)) (alike_from_counts p q more xs (omega arith))

-- and the other way round
pub none_from_count : {X : Type 0} (p : X → Bool) (xs : List X) → count_by p xs ≡ 0 → All (λ x. p x ≡ false) xs
none_from_count p xs e = λ i d lt. sym (alike_from_counts (λ x. false) p (λ x no. absurd (false≢true no)) xs (omega arith) i d lt)

-- a test that passes at each element counts all, and the other way round
pub all_pass : {X : Type 0} (p : X → Bool) (xs : List X) → All (λ x. p x ≡ true) xs → count_by p xs ≡ length xs
all_pass p xs h = sum_ones (λ x. one_if (p x)) xs (λ i d lt. ap one_if (h i d lt))

pub each_passes : {X : Type 0} (p : X → Bool) (xs : List X) → count_by p xs ≡ length xs → All (λ x. p x ≡ true) xs
each_passes p xs e = let all = all_pass (λ x. true) xs (λ i d lt. refl) in alike_from_counts p (λ x. true) (λ x yes. refl) xs (omega arith)

-- one that fails is found where not all count
pub one_fails : {X : Type 0} (p : X → Bool) (xs : List X) → count_by p xs < length xs → (x : X) × Contains xs x × (p x ≡ false)
one_fails p [] lt = absurd (omega arith)
one_fails {X} p (x ∷ xs) lt = by_test (p x) refl (one_fails p xs)
  where
    by_test : (b : Bool) → p x ≡ b → (count_by p xs < length xs → (y : X) × Contains xs y × (p y ≡ false)) → (y : X) × Contains (x ∷ xs) y × (p y ≡ false)
    by_test false f later = (x, (0, omega arith, refl), f)
    by_test true f later =
        let a = count-cons p x xs in
        let b : one_if (p x) ≡ 1 = ap one_if f in
        let rest = later (omega arith) in
        let at = rest.1 in
        (rest.0, (suc at.0, (let l = at.1 in omega arith), at.2), rest.2)

-- a test that also fails at one element counts one less
pub count_less : (p q : ℕ → Bool) (c : ℕ) → p c ≡ true → q c ≡ false → ((x : ℕ) → x ≢ c → q x ≡ p x) → (xs : List ℕ) (k : ℕ) → AllPairs (λ a b. a ≢ b) xs → k < length xs → get_or xs k c ≡ c → suc (count_by q xs) ≡ count_by p xs
count_less p q c before after else [] k apart lt e = absurd (omega arith)
count_less p q c before after else (x ∷ xs) zero apart lt e =
    let here : one_if (p x) ≡ 1 = ap one_if (ap p e ∙ before) in
    let there : one_if (q x) ≡ 0 = ap one_if (ap q e ∙ after) in
    let rest : count_by q xs ≡ count_by p xs = count_same q p xs (λ i d li. else (get_or xs i d) (λ f. apart 0 (suc i) d (omega arith) (omega arith) (e ∙ sym f))) in
    let a = count-cons p x xs in
    let b = count-cons q x xs in
    omega arith
count_less p q c before after else (x ∷ xs) (suc k) apart lt e =
    let other : x ≢ c = (λ f. apart 0 (suc k) c (omega arith) lt (f ∙ sym e)) in
    let here : one_if (q x) ≡ one_if (p x) = ap one_if (else x other) in
    let rest = count_less p q c before after else xs k (λ i j d l m. apart (suc i) (suc j) d (omega arith) (omega arith)) (omega arith) e in
    let a = count-cons p x xs in
    let b = count-cons q x xs in
    omega arith

-- a test that always passes counts all
pub count_every : (xs : List ℕ) → count_by (λ s. true) xs ≡ length xs
count_every xs = sum_ones (λ s. 1) xs (λ i d lt. refl)

-- a range that is longer by one
count_longer : (p : ℕ → Bool) (a n : ℕ) → count_by p (range_with_len a (suc n)) ≡ count_by p (range_with_len a n) + one_if (p (a + n))
count_longer p a zero = let e : one_if (p (a + 0)) ≡ one_if (p a) = ap (λ n. one_if (p n)) (omega arith) in let c = count-cons p a [] in omega arith
count_longer p a (suc n) =
    let e : one_if (p (a + 1 + n)) ≡ one_if (p (a + suc n)) = ap (λ n. one_if (p n)) (omega arith) in
    let long = count-cons p a (range_with_len (a + 1) (suc n)) in
    let short = count-cons p a (range_with_len (a + 1) n) in
    let rest = count_longer p (a + 1) n in
    omega arith

pub count_range_more : (p : ℕ → Bool) (n : ℕ) → count_by p (range_with_len 0 (n + 1)) ≡ count_by p (range_with_len 0 n) + one_if (p n)
count_range_more p n =
    ap (λ n. count_by p (range_with_len 0 n)) {x = n + 1} {y = suc n} (omega arith)
    ∙ (count_longer p 0 n ∙ ap (λ m. count_by p (range_with_len 0 n) + one_if (p m)) {x = 0 + n} {y = n} (omega arith))

-- the numbers of a range differ
pub range_apart : (a n : ℕ) → AllPairs (λ a b. a ≢ b) (range_with_len a n)
range_apart a n i j d l m e =
    let len = length-range_with_len a n in
    let first = get_or-range_with_len a n i d (omega arith) in
    let second = get_or-range_with_len a n j d (omega arith) in
    omega arith

pub none_of : (p : ℕ → Bool) (xs : List ℕ) → list_any p xs ≡ false → All (λ x. p x ≡ false) xs
none_of p [] e = All-nil (λ x. p x ≡ false)
none_of p (x ∷ xs) e = let b = or_parts (p x) (list_any p xs) e in All-cons (λ x. p x ≡ false) x xs b.0 (none_of p xs b.1)

pub not_every : (p : ℕ → Bool) (xs : List ℕ) → list_all p xs ≡ false → Any (λ x. p x ≡ false) xs
not_every p [] e = absurd (let f : true ≡ false = e in cc)
not_every p (x ∷ xs) e = by_test (p x) refl (not_every p xs)
  where
    by_test : (b : Bool) → p x ≡ b → (list_all p xs ≡ false → Any (λ x. p x ≡ false) xs) → Any (λ x. p x ≡ false) (x ∷ xs)
    by_test false f later = (0, x, omega arith, refl, f)
    by_test true f later =
        let same : list_all p (x ∷ xs) ≡ list_all p xs = ap (λ b. b && list_all p xs) f in
        let rest = later (sym same ∙ e) in
        (suc rest.0, rest.1, (let lt = rest.2 in omega arith), rest.3, rest.4)

-- what holds of all numbers of a range holds of each below its end
pub below_end : (P : ℕ → Type 0) (n c : ℕ) → c < n → All P (range_with_len 0 n) → P c
below_end P n c lt all =
    let len = length-range_with_len 0 n in
    let at = get_or-range_with_len 0 n c c lt in
    let same : get_or (range_with_len 0 n) c c ≡ c = omega arith in
    subst P same (all c c (omega arith))
