-- How often a number stands in a list.
use Rattle.std.proofs.Common.{inl, ◌≡◌, ◌≢◌, ℕ, zero, suc, ◌+◌, ◌≤◌, ◌==◌, List, [], ◌∷◌, ◌++◌, map, ap, ◌∙◌, arith, All, IsPermutation}
use Rattle.std.specs.List.{range_with_len}
use mathlib.Core.Logic.{dite}
use native.Mathlib.Decide.{ℕ_discrete}
use Rattle.std.proofs.lemmas.List.Elements.{All-cons}
use Rattle.std.proofs.lemmas.List.Sorted.{sum_by-IsPermutation}
use Rattle.base.proofs.Times.{times-append, times-cons, one_if_here, one_if_elsewhere, out_of_range, same}
use Rattle.base.specs.Counts.{times, one_if}

abbrev pub one_at : ℕ → ℕ → ℕ
one_at v x = one_if (x == v)

pub times-permutation : (v : ℕ) (xs ys : List ℕ) → IsPermutation xs ys → times v ys ≡ times v xs
times-permutation v xs ys same = sum_by-IsPermutation (one_at v) xs ys same

-- a number that never stands in a list of numbers belongs to no element
pub never : {A : Type 0} (f : A → ℕ) (v : ℕ) (xs : List A) → times v (map f xs) ≡ 0 → All (λ x. f x ≢ v) xs
never f v [] none = λ k d lt. absurd (omega arith)
never f v (x ∷ xs) none =
    let both = times-cons v (f x) (map f xs) in
    All-cons (λ y. f y ≢ v) x xs (λ e. let one = one_if_here (f x) v e in absurd (omega arith)) (never f v xs (omega arith))

-- a number stands at most once in a range
pub range_once : (v a n : ℕ) → times v (range_with_len a n) ≤ 1
range_once v a zero = omega arith
range_once v a (suc n) =
    let both = times-cons v a (range_with_len (a + 1) n) in
    dite (ℕ_discrete a v)
    (λ (here : a ≡ v). let one = one_if_here a v here in let later = out_of_range v (a + 1) n (inl (omega arith)) in omega arith)
    (λ (else : a ≢ v). let none = one_if_elsewhere a v else in let later = range_once v (a + 1) n in omega arith)

-- two ranges, one after the other
pub range-append : (a m n b l : ℕ) → a + m ≡ b → m + n ≡ l → range_with_len a l ≡ range_with_len a m ++ range_with_len b n
range-append a zero n b l from all = ap (λ (k : ℕ). range_with_len k l) (omega arith) ∙ ap (range_with_len b) (omega arith)
range-append a (suc m) n b zero from all = absurd (omega arith)
range-append a (suc m) n b (suc l) from all = ap (λ xs. a ∷ xs) (range-append (a + 1) m n b l (omega arith) (omega arith))

-- what is left where equal parts are taken away
pub IsPermutation-rest : (xs ys us vs : List ℕ) → IsPermutation xs us → IsPermutation (xs ++ ys) (us ++ vs) → IsPermutation ys vs
IsPermutation-rest xs ys us vs front all =
    same ys vs (λ v.
    let whole = times-permutation v (xs ++ ys) (us ++ vs) all in let first = times-permutation v xs us front in let one = times-append v xs ys in let other = times-append v us vs in omega arith)
