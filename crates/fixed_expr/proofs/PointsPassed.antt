-- The value of a curve at a number, by how many of its points have arguments up to that number.
use Rattle.std.proofs.Common.{◌≡◌, ℕ, zero, suc, ◌-◌, ◌<◌, ◌≤◌, List, [], ◌∷◌, length, Bool, true, false, refl, sym, ap, ◌∙◌, arith}
use Rattle.std.specs.Prelude.{ℤ, ◌≤ℤ◌, ◌<ℤ◌, int_le, slice_index_or}
use Rattle.std.specs.List.Sorted.{IsPartitionedBy}
use Rattle.std.proofs.lemmas.Int.{ints}
use Rattle.fixed_expr.specs.Curves.{RiseFrom, IsCurve, value_along, value_from, curve_value}
use Rattle.fixed_expr.specs.inside.Passed.{ArePassed}
use Rattle.fixed_expr.proofs.Pieces.{before_first, on_piece, after_piece}

-- the arguments rise
in_order : (p : ℤ × ℤ) (points : List (ℤ × ℤ)) (i j : ℕ) (d : ℤ × ℤ) → RiseFrom p points → i ≤ j → j < suc (length points) → (slice_index_or (p ∷ points) i d).0 ≤ℤ (slice_index_or (p ∷ points) j d).0
in_order p points zero zero d rises order within = omega (arith, ints)
in_order p (q ∷ points) zero (suc j) d rises order within = omega (arith, ints, rises.0, in_order q points zero j d rises.1 (omega arith) (omega (arith, within)))
in_order p (q ∷ points) (suc i) (suc j) d rises order within = in_order q points i j d rises.1 (omega (arith, order)) (omega (arith, within))
in_order p _ _ _ d rises order within = absurd (omega (arith, order, within))

pub passed_first : (points : List (ℤ × ℤ)) (x : ℤ) → IsCurve points → IsPartitionedBy (λ (p : ℤ × ℤ). int_le p.0 x) points
passed_first [] x curve i j d order within passed = absurd (omega (arith, within))
passed_first (p ∷ points) x curve i j d order within passed = below (slice_index_or (p ∷ points) i d).0 (slice_index_or (p ∷ points) j d).0 (in_order p points i j d curve.rising order within) passed
  where
    below : (y z : ℤ) → y ≤ℤ z → int_le z x ≡ true → int_le y x ≡ true
    below y z order le = by (int_le y x) refl
      where
        by : (b : Bool) → int_le y x ≡ b → b ≡ true
        by true e = refl
        by false e = absurd (omega (arith, ints, order, le, e))

-- after all points, and between the one before position n and the one there
after_all : (p : ℤ × ℤ) (points : List (ℤ × ℤ)) (x : ℤ) (d : ℤ × ℤ) → RiseFrom p points → ((k : ℕ) → k < length points → (slice_index_or points k d).0 ≤ℤ x) → value_from p points x ≡ (slice_index_or (p ∷ points) (length points) d).1
after_all p [] x d rises passed = refl
after_all p (q ∷ points) x d rises passed = after_piece p q points x rises.0 (passed 0 (omega arith)) ∙ after_all q points x d rises.1 (λ k within. passed (suc k) (omega (arith, within)))

at_position : (p : ℤ × ℤ) (points : List (ℤ × ℤ)) (x : ℤ) (n : ℕ) (d : ℤ × ℤ) → RiseFrom p points → n < length points → p.0 ≤ℤ x → ((k : ℕ) → k < n → (slice_index_or points k d).0 ≤ℤ x) → x <ℤ (slice_index_or points n d).0 → value_from p points x ≡ value_along (slice_index_or (p ∷ points) n d) (slice_index_or points n d) x
at_position p [] x n d rises within above passed below = absurd (omega (arith, within))
at_position p (q ∷ points) x zero d rises within above passed below = on_piece p q points x rises.0 above below
at_position p (q ∷ points) x (suc n) d rises within above passed below =
    after_piece p q points x rises.0 (passed 0 (omega arith))
    ∙ at_position q points x n d rises.1 (omega (arith, within)) (passed 0 (omega arith)) (λ k before. passed (suc k) (omega (arith, before))) below

pub value_before : (points : List (ℤ × ℤ)) (x : ℤ) (n : ℕ) (d : ℤ × ℤ) → IsCurve points → ArePassed points x n → n ≡ 0 → (slice_index_or points 0 d).1 ≡ curve_value points x
value_before [] x n d curve passed none = absurd (omega (arith, curve.some))
value_before (p ∷ points) x n d curve passed none = sym (before_first p points x (omega (arith, ints, passed.after 0 d (omega (arith, none)) (omega arith))))

pub value_after : (points : List (ℤ × ℤ)) (x : ℤ) (n : ℕ) (d : ℤ × ℤ) → IsCurve points → ArePassed points x n → n ≡ length points → (slice_index_or points (n - 1) d).1 ≡ curve_value points x
value_after [] x n d curve passed all = absurd (omega (arith, curve.some))
value_after (p ∷ points) x n d curve passed all =
    let last : n - 1 ≡ length points = omega (arith, all) in
    ap (λ (k : ℕ). (slice_index_or (p ∷ points) k d).1) last
    ∙ sym (after_all p points x d curve.rising (λ k within. passed.before (suc k) d (omega (arith, within, all))))

pub value_between : (points : List (ℤ × ℤ)) (x : ℤ) (n : ℕ) (d : ℤ × ℤ) → IsCurve points → ArePassed points x n → (n ≡ 0 → ⊥) → (n ≡ length points → ⊥) → value_along (slice_index_or points (n - 1) d) (slice_index_or points n d) x ≡ curve_value points x
value_between [] x n d curve passed some inside = absurd (omega (arith, curve.some))
value_between (p ∷ points) x zero d curve passed some inside = absurd (some refl)
value_between (p ∷ points) x (suc n) d curve passed some inside =
    let back : suc n - 1 ≡ n = omega arith in
    let within : suc n < length (p ∷ points) = omega (arith, passed.whole, inside) in
    rw back
    (sym (at_position p points x n d curve.rising (omega (arith, within)) (passed.before 0 d (omega arith)) (λ k before. passed.before (suc k) d (omega (arith, before))) (passed.after (suc n) d (omega arith) within)))
