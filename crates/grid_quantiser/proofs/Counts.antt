-- The counts of the axes, the indices of a state and the numbers of indices, one for each axis.
use Rattle.std.proofs.Common.{◌≡◌, ◌≢◌, ℕ, zero, suc, ◌+◌, ◌-◌, ◌<◌, ◌≤◌, arith, refl, ap, sym, ◌∙◌, below_more, List, [], ◌∷◌, ◌++◌, length, take, drop, replicate, get_or, set, get_or-set_same, get_or-set_other, ℤ, pos, inl, inr}
use Rattle.std.specs.List.{All}
use Rattle.std.proofs.lemmas.List.Elements.{All-get_or}
use Rattle.std.proofs.lemmas.Bool.{cases_lt}
use Rattle.std.proofs.lemmas.List.{same_lists, length-append, length-replicate, get_or_append_left, get_or-append_right, get_or-replicate, get_or_default, take_at}
use Rattle.mixed_radix.specs.Radix.{AreDigitsOf}
use Rattle.mixed_radix.proofs.Numbers.{number_same}
use Rattle.grid_quantiser.specs.declared.axis.Axis.{Axis}
use Rattle.grid_quantiser.specs.Axes.{IsAxis, no_axis, counts_of}
use Rattle.grid_quantiser.specs.Cells.{IsInDomain, index_of, indices_of, cell_of, numbers_at}
use Rattle.grid_quantiser.specs.inside.Storage.{six_counts}
use Rattle.grid_quantiser.specs.Extents.{IsOnAxis}
use Rattle.grid_quantiser.proofs.AxisNumbers.{index_below}

pub length-counts_of : (axes : List Axis) → length (counts_of axes) ≡ length axes
length-counts_of [] = refl
length-counts_of (a ∷ axes) = ap suc (length-counts_of axes)

pub drop-counts_of : (k : ℕ) (axes : List Axis) → drop k (counts_of axes) ≡ counts_of (drop k axes)
drop-counts_of zero axes = refl
drop-counts_of (suc k) [] = refl
drop-counts_of (suc k) (a ∷ axes) = drop-counts_of k axes

pub each_count : (axes : List Axis) (k : ℕ) → get_or (counts_of axes) k 0 ≡ (get_or axes k no_axis).count
each_count [] k = refl
each_count (a ∷ axes) zero = refl
each_count (a ∷ axes) (suc k) = each_count axes k

pub take_counts : (axes : List Axis) (counts : List ℕ) (n : ℕ) → counts ≡ six_counts axes → n ≡ length axes → take n counts ≡ counts_of axes
take_counts axes counts n are is = ap (take n) are ∙ take_at (counts_of axes) (replicate (6 - length axes) 0) n (length-counts_of axes ∙ sym is)

pub length-indices_of : (axes : List Axis) (xs : List ℤ) → length axes ≤ length xs → length (indices_of axes xs) ≡ length axes
length-indices_of [] xs long = refl
length-indices_of (a ∷ axes) [] long = absurd (omega (arith, long))
length-indices_of (a ∷ axes) (x ∷ xs) long = ap suc (length-indices_of axes xs (omega (arith, long)))

pub each_index : (axes : List Axis) (xs : List ℤ) (k : ℕ) → length axes ≤ length xs → k < length axes → get_or (indices_of axes xs) k 0 ≡ index_of (get_or axes k no_axis) (get_or xs k (pos 0))
each_index [] xs k long within = absurd (omega (arith, within))
each_index (a ∷ axes) [] k long within = absurd (omega (arith, long))
each_index (a ∷ axes) (x ∷ xs) zero long within = refl
each_index (a ∷ axes) (x ∷ xs) (suc k) long within = each_index axes xs k (omega (arith, long)) (omega (arith, within))

pub length-numbers_at : (f : Axis → ℕ → ℤ) (axes : List Axis) (ps : List ℕ) → length axes ≤ length ps → length (numbers_at f axes ps) ≡ length axes
length-numbers_at f [] ps long = refl
length-numbers_at f (a ∷ axes) [] long = absurd (omega (arith, long))
length-numbers_at f (a ∷ axes) (p ∷ ps) long = ap suc (length-numbers_at f axes ps (omega (arith, long)))

pub each_number : (f : Axis → ℕ → ℤ) (axes : List Axis) (ps : List ℕ) (k : ℕ) (d : ℤ) → length axes ≤ length ps → k < length axes → get_or (numbers_at f axes ps) k d ≡ f (get_or axes k no_axis) (get_or ps k 0)
each_number f [] ps k d long within = absurd (omega (arith, within))
each_number f (a ∷ axes) [] k d long within = absurd (omega (arith, long))
each_number f (a ∷ axes) (p ∷ ps) zero d long within = refl
each_number f (a ∷ axes) (p ∷ ps) (suc k) d long within = each_number f axes ps k d (omega (arith, long)) (omega (arith, within))

-- ---- the domain, axis by axis

pub domain_each : (axes : List Axis) (xs : List ℤ) (k : ℕ) → IsInDomain axes xs → k < length axes → IsOnAxis (get_or axes k no_axis) (get_or xs k (pos 0))
domain_each [] xs k inside within = absurd (omega (arith, within))
domain_each (a ∷ axes) [] k inside within = absurd inside
domain_each (a ∷ axes) (x ∷ xs) zero inside within = (inside.0, inside.1)
domain_each (a ∷ axes) (x ∷ xs) (suc k) inside within = domain_each axes xs k inside.2 (omega (arith, within))

pub domain_from_each : (axes : List Axis) (xs : List ℤ) → length axes ≤ length xs → ((k : ℕ) → k < length axes → IsOnAxis (get_or axes k no_axis) (get_or xs k (pos 0))) → IsInDomain axes xs
domain_from_each [] xs long each = tt
domain_from_each (a ∷ axes) [] long each = absurd (omega (arith, long))
domain_from_each (a ∷ axes) (x ∷ xs) long each =
    let here = each 0 (omega arith) in
    (here.0, here.1, domain_from_each axes xs (omega (arith, long)) (λ k within. each (suc k) (omega (arith, within))))

-- ---- lists that are written from the first index on

pub written_more : {X : Type 0} (xs : List X) (i : ℕ) (v d : X) (F : ℕ → X) → i < length xs → v ≡ F i → ((k : ℕ) → k < i → get_or xs k d ≡ F k) → (k : ℕ) → k < i + 1 → get_or (set xs i v) k d ≡ F k
written_more {X = X} xs i v d F lt is before =
    below_more (λ (k : ℕ). get_or (set xs i v) k d ≡ F k) i
    (λ k h. let ne : k ≢ i = omega (arith, h) in get_or-set_other xs i k v d ne ∙ before k h)
    (get_or-set_same xs i v d lt ∙ is)

pub kept_more : {X : Type 0} (xs : List X) (i : ℕ) (v d : X) → ((k : ℕ) → i ≤ k → get_or xs k d ≡ d) → (k : ℕ) → i + 1 ≤ k → get_or (set xs i v) k d ≡ d
kept_more {X = X} xs i v d rest k past = let ne : k ≢ i = omega (arith, past) in get_or-set_other xs i k v d ne ∙ rest k (omega (arith, past))

-- six indices with these first, and d after them
pub six_written : {X : Type 0} (xs front : List X) (d : X) → length xs ≡ 6 → length front ≤ 6 → ((k : ℕ) → k < length front → get_or xs k d ≡ get_or front k d) → ((k : ℕ) → length front ≤ k → get_or xs k d ≡ d) →
    xs ≡ front ++ replicate (6 - length front) d
six_written {X = X} xs front d six few each rest =
    let tail : List X = replicate (6 - length front) d in
    same_lists xs (front ++ tail) (omega (arith, six, few, length-append front tail, length-replicate (6 - length front) d))
    (λ k e lt. get_or_default xs k e d lt ∙ elim (cases_lt k (length front)) [
      | inl here ↦ each k here ∙ sym (get_or_append_left front tail d k here) ∙ sym (get_or_default (front ++ tail) k e d (long k lt))
      | inr past ↦ rest k past ∙ sym (get_or-append_right front tail (length front) k d refl past ∙ get_or-replicate (6 - length front) (k - length front) d d (omega (arith, six, few, lt, past))) ∙ sym (get_or_default (front ++ tail) k e d (long k lt))
    ])
  where
    long : (k : ℕ) → k < length xs → k < length (front ++ replicate (6 - length front) d)
    long k lt = omega (arith, six, few, lt, length-append front (replicate (6 - length front) d), length-replicate (6 - length front) d)

-- the indices of a state in the domain are the digits of its cell
pub state_digits : (axes : List Axis) (xs : List ℤ) (ps : List ℕ) → All IsAxis axes → length axes ≤ length ps → length axes ≤ length xs → IsInDomain axes xs →
    ((k : ℕ) → k < length axes → get_or ps k 0 ≡ index_of (get_or axes k no_axis) (get_or xs k (pos 0))) → AreDigitsOf (counts_of axes) (cell_of axes xs) ps
state_digits axes xs ps each long long_xs inside is = record {
  are = record {
    long = omega (arith, long, length-counts_of axes);
    below = λ k lt.
        let within : k < length axes = omega (arith, lt, length-counts_of axes) in
        let on = domain_each axes xs k inside within in
        omega (arith, is k within, each_count axes k, index_below (get_or axes k no_axis) (get_or xs k (pos 0)) (All-get_or IsAxis axes k no_axis within each) on.0 on.1);
  };
  number_is = number_same (counts_of axes) ps (indices_of axes xs) (omega (arith, long, length-counts_of axes)) (omega (arith, length-indices_of axes xs long_xs, length-counts_of axes))
      (λ k lt. let within : k < length axes = omega (arith, lt, length-counts_of axes) in is k within ∙ sym (each_index axes xs k long_xs within));
}
