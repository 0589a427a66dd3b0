-- Lists of numbers, one at most the other in each state.
use Rattle.std.proofs.Common.{◌≡◌, ℕ, zero, suc, ◌<◌, ◌≤◌, arith, refl, ap, List, [], ◌∷◌, ◌++◌, length, get_or, ℤ, pos, ◌≤ℤ◌}
use Rattle.std.specs.Int.Signed.{≤ℤ_refl}
use Rattle.std.proofs.lemmas.Int.{ints, by_lt_z}
use Rattle.grid_quantiser.specs.declared.axis.Axis.{Axis}
use Rattle.grid_quantiser.specs.CellBoxes.{IsAtMost, IsInBox}

-- at most, state by state
pub at_most_each : (axes : List Axis) (xs ys : List ℤ) (k : ℕ) → IsAtMost axes xs ys → k < length axes → get_or xs k (pos 0) ≤ℤ get_or ys k (pos 0)
at_most_each [] xs ys k h within = absurd (omega (arith, within))
at_most_each (a ∷ axes) [] ys k h within = absurd h
at_most_each (a ∷ axes) (x ∷ xs) [] k h within = absurd h
at_most_each (a ∷ axes) (x ∷ xs) (y ∷ ys) zero h within = h.0
at_most_each (a ∷ axes) (x ∷ xs) (y ∷ ys) (suc k) h within = at_most_each axes xs ys k h.1 (omega (arith, within))

pub at_most_from_each : (axes : List Axis) (xs ys : List ℤ) → length axes ≤ length xs → length axes ≤ length ys → ((k : ℕ) → k < length axes → get_or xs k (pos 0) ≤ℤ get_or ys k (pos 0)) → IsAtMost axes xs ys
at_most_from_each [] xs ys long_xs long_ys each = tt
at_most_from_each (a ∷ axes) [] ys long_xs long_ys each = absurd (omega (arith, long_xs))
at_most_from_each (a ∷ axes) (x ∷ xs) [] long_xs long_ys each = absurd (omega (arith, long_ys))
at_most_from_each (a ∷ axes) (x ∷ xs) (y ∷ ys) long_xs long_ys each =
    (each 0 (omega arith), at_most_from_each axes xs ys (omega (arith, long_xs)) (omega (arith, long_ys)) (λ k within. each (suc k) (omega (arith, within))))

pub IsAtMost-refl : (axes : List Axis) (xs : List ℤ) → length axes ≤ length xs → IsAtMost axes xs xs
IsAtMost-refl [] xs long = tt
IsAtMost-refl (a ∷ axes) [] long = absurd (omega (arith, long))
IsAtMost-refl (a ∷ axes) (x ∷ xs) long = (≤ℤ_refl x, IsAtMost-refl axes xs (omega (arith, long)))

pub IsAtMost-trans : (axes : List Axis) (xs ys zs : List ℤ) → IsAtMost axes xs ys → IsAtMost axes ys zs → IsAtMost axes xs zs
IsAtMost-trans [] xs ys zs h k = tt
IsAtMost-trans (a ∷ axes) [] ys zs h k = absurd h
IsAtMost-trans (a ∷ axes) (x ∷ xs) [] zs h k = absurd h
IsAtMost-trans (a ∷ axes) (x ∷ xs) (y ∷ ys) [] h k = absurd k
IsAtMost-trans (a ∷ axes) (x ∷ xs) (y ∷ ys) (z ∷ zs) h k =
    (omega (arith, ints, h.0, k.0), IsAtMost-trans axes xs ys zs h.1 k.1)

-- what stands past the axes is not looked at
pub at_most_left : (axes : List Axis) (xs ys zs : List ℤ) → length axes ≤ length xs → IsAtMost axes (xs ++ zs) ys ≡ IsAtMost axes xs ys
at_most_left [] xs ys zs long = refl
at_most_left (a ∷ axes) [] ys zs long = absurd (omega (arith, long))
at_most_left (a ∷ axes) (x ∷ xs) [] zs long = refl
at_most_left (a ∷ axes) (x ∷ xs) (y ∷ ys) zs long = ap (λ (rest : Type 0). (x ≤ℤ y) × rest) (at_most_left axes xs ys zs (omega (arith, long)))

pub at_most_right : (axes : List Axis) (xs ys zs : List ℤ) → length axes ≤ length ys → IsAtMost axes xs (ys ++ zs) ≡ IsAtMost axes xs ys
at_most_right [] xs ys zs long = refl
at_most_right (a ∷ axes) [] ys zs long = refl
at_most_right (a ∷ axes) (x ∷ xs) [] zs long = absurd (omega (arith, long))
at_most_right (a ∷ axes) (x ∷ xs) (y ∷ ys) zs long = ap (λ (rest : Type 0). (x ≤ℤ y) × rest) (at_most_right axes xs ys zs (omega (arith, long)))

-- two boxes that reach past each other's ends have a point in common
pub common_point : (axes : List Axis) (lo hi low high : List ℤ) → IsAtMost axes lo hi → IsAtMost axes low high → IsAtMost axes lo high → IsAtMost axes low hi →
    (xs : List ℤ) × IsInBox axes lo hi xs × IsInBox axes low high xs
common_point [] lo hi low high h k l m = ([], (tt, tt), (tt, tt))
common_point (a ∷ axes) [] hi low high h k l m = absurd h
common_point (a ∷ axes) (x ∷ lo) [] low high h k l m = absurd h
common_point (a ∷ axes) (x ∷ lo) (y ∷ hi) [] high h k l m = absurd k
common_point (a ∷ axes) (x ∷ lo) (y ∷ hi) (v ∷ low) [] h k l m = absurd k
common_point (a ∷ axes) (x ∷ lo) (y ∷ hi) (v ∷ low) (w ∷ high) h k l m =
    let rest = common_point axes lo hi low high h.1 k.1 l.1 m.1 in
    by_lt_z x v
    (λ below. (v ∷ rest.0, ((omega (arith, ints, below), rest.1.0), (m.0, rest.1.1)), ((≤ℤ_refl v, rest.2.0), (k.0, rest.2.1))))
    (λ above. (x ∷ rest.0, ((≤ℤ_refl x, rest.1.0), (h.0, rest.1.1)), ((above, rest.2.0), (l.0, rest.2.1))))
