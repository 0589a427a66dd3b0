-- The values of a node are near, where those of its parts are.
use Rattle.std.proofs.Common.{◌≡◌, ℕ, zero, suc, ◌≤◌, subst, sym, List, [], ◌∷◌, length, arith, slice_index_or}
use Rattle.std.specs.Prelude.{ℤ, pos, nat_abs}
use Rattle.std.proofs.lemmas.Int.{ints}
use Rattle.fixed_expr.specs.Expression.{Expression, NumExpr, VarExpr, NegExpr, AddExpr, SubExpr, MulExpr, DivExpr, MinExpr, MaxExpr, AbsExpr, LutExpr}
use Rattle.fixed_expr.specs.Value.{IsWellFormed, value_of}
use Rattle.interval_eval.specs.declared.interval.Interval.{Interval}
use Rattle.interval_eval.specs.Span.{IsIn, AreIn, span_of}
use Rattle.interval_eval.proofs.SpanLaws.{values_lie_in_spans}
use Rattle.growth_bound.specs.Deviation.{IsNear, AreNear, magnitude_of, deviation_of}
use Rattle.growth_bound.proofs.CurveDistances.{near_lookup}
use Rattle.growth_bound.proofs.Distances.{near_negation, near_sum, near_difference, near_minimum, near_maximum, near_absolute, near_product, near_quotient}

near_variable : (radii xs ys : List ℤ) (i : ℕ) → AreNear radii xs ys → IsNear (pos (nat_abs (slice_index_or radii i (pos 0)))) (slice_index_or xs i (pos 0)) (slice_index_or ys i (pos 0))
near_variable [] [] [] i h = (omega (arith, ints), omega (arith, ints))
near_variable (r ∷ radii) (x ∷ xs) (y ∷ ys) zero h = (omega (arith, ints, h.0.0), omega (arith, ints, h.0.1))
near_variable (r ∷ radii) (x ∷ xs) (y ∷ ys) (suc i) h = near_variable radii xs ys i h.1
near_variable _ _ _ i h = absurd h

within_magnitude : (a : Interval) (x : ℤ) → IsIn a x → nat_abs x ≤ magnitude_of a
within_magnitude a x h = omega (arith, ints, h.0, h.1)

-- the values are at most the deviation apart, as values lie in their spans
pub values_move_by_deviations : (e : Expression) (area : List Interval) (radii xs ys : List ℤ) → IsWellFormed e (length area) → AreIn area xs → AreIn area ys → AreNear radii xs ys → IsNear (pos (deviation_of e area radii)) (value_of e xs) (value_of e ys)
values_move_by_deviations (NumExpr k) area radii xs ys formed p q h = (omega (arith, ints), omega (arith, ints))
values_move_by_deviations (VarExpr i) area radii xs ys formed p q h = near_variable radii xs ys i h
values_move_by_deviations (NegExpr a) area radii xs ys formed p q h =
    near_negation (deviation_of a area radii) (value_of a xs) (value_of a ys) (values_move_by_deviations a area radii xs ys formed p q h)
values_move_by_deviations (AddExpr a b) area radii xs ys formed p q h =
    near_sum (deviation_of a area radii) (deviation_of b area radii) (value_of a xs) (value_of a ys) (value_of b xs) (value_of b ys) (values_move_by_deviations a area radii xs ys formed.0 p q h) (values_move_by_deviations b area radii xs ys formed.1 p q h)
values_move_by_deviations (SubExpr a b) area radii xs ys formed p q h =
    near_difference (deviation_of a area radii) (deviation_of b area radii) (value_of a xs) (value_of a ys) (value_of b xs) (value_of b ys) (values_move_by_deviations a area radii xs ys formed.0 p q h) (values_move_by_deviations b area radii xs ys formed.1 p q h)
values_move_by_deviations (MulExpr a b) area radii xs ys formed p q h =
    near_product (magnitude_of (span_of a area)) (magnitude_of (span_of b area)) (deviation_of a area radii) (deviation_of b area radii) (value_of a xs) (value_of a ys) (value_of b xs) (value_of b ys)
    (within_magnitude (span_of a area) (value_of a xs) (values_lie_in_spans a area xs formed.0 p))
    (within_magnitude (span_of b area) (value_of b ys) (values_lie_in_spans b area ys formed.1 q))
    (values_move_by_deviations a area radii xs ys formed.0 p q h)
    (values_move_by_deviations b area radii xs ys formed.1 p q h)
values_move_by_deviations (DivExpr a k) area radii xs ys formed p q h =
    near_quotient (deviation_of a area radii) (value_of a xs) (value_of a ys) k formed.1 (values_move_by_deviations a area radii xs ys formed.0 p q h)
values_move_by_deviations (MinExpr a b) area radii xs ys formed p q h =
    near_minimum (deviation_of a area radii) (deviation_of b area radii) (value_of a xs) (value_of a ys) (value_of b xs) (value_of b ys) (values_move_by_deviations a area radii xs ys formed.0 p q h) (values_move_by_deviations b area radii xs ys formed.1 p q h)
values_move_by_deviations (MaxExpr a b) area radii xs ys formed p q h =
    near_maximum (deviation_of a area radii) (deviation_of b area radii) (value_of a xs) (value_of a ys) (value_of b xs) (value_of b ys) (values_move_by_deviations a area radii xs ys formed.0 p q h) (values_move_by_deviations b area radii xs ys formed.1 p q h)
values_move_by_deviations (AbsExpr a) area radii xs ys formed p q h =
    near_absolute (deviation_of a area radii) (value_of a xs) (value_of a ys) (values_move_by_deviations a area radii xs ys formed p q h)
values_move_by_deviations (LutExpr a points) area radii xs ys formed p q h =
    near_lookup points (deviation_of a area radii) (value_of a xs) (value_of a ys) formed.1 (values_move_by_deviations a area radii xs ys formed.0 p q h)

-- the same of a number that is the deviation
pub deviation_bounds : (e : Expression) (area : List Interval) (radii : List ℤ) (d : ℤ) → IsWellFormed e (length area) → d ≡ pos (deviation_of e area radii) → (xs ys : List ℤ) → AreIn area xs → AreIn area ys → AreNear radii xs ys → IsNear d (value_of e xs) (value_of e ys)
deviation_bounds e area radii d formed exact xs ys p q h =
    let Near : ℤ → Type 0 = λ z. IsNear z (value_of e xs) (value_of e ys) in
    subst Near (sym exact) (values_move_by_deviations e area radii xs ys formed p q h)
