-- The span of an expression that shifts with a variable shifts by just what the variable's range shifts by.
use Rattle.std.proofs.Common.{◌≡◌, ℕ, true, false, not, ◌||◌, ◌&&◌, List, sym, ap, ◌∙◌, arith, inl, inr}
use Rattle.std.specs.Prelude.{◌-ℤ◌}
use Rattle.std.proofs.lemmas.Int.{ints}
use Rattle.std.proofs.lemmas.Bool.{or_left, or_right, or_cases, and_parts, not-true, eqb-true, false≢true}
use Rattle.fixed_expr.specs.Expression.{Expression, VarExpr, AddExpr, SubExpr}
use Rattle.fixed_expr.specs.Mentions.{mentions}
use Rattle.fixed_expr.specs.Shifts.{shifts_with}
use Rattle.interval_eval.specs.declared.interval.Interval.{Interval}
use Rattle.interval_eval.specs.Span.{span_of}
use Rattle.interval_eval.specs.inside.Nested.{range_at, AreSameRangesBut}
use Rattle.interval_eval.proofs.Depending.{agree}

-- two intervals shifted from two others by one distance at each end
abbrev AreShifted : Interval → Interval → Interval → Interval → Type 0
AreShifted s i t j = (s.lo -ℤ i.lo ≡ t.lo -ℤ j.lo) × (s.hi -ℤ i.hi ≡ t.hi -ℤ j.hi)

module _ (k : ℕ) (area other : List Interval) where
  abbrev Shifts : Expression → Type 0
  Shifts e = shifts_with e k ≡ true → AreSameRangesBut k e area other → AreShifted (span_of e area) (range_at area k) (span_of e other) (range_at other k)

  -- a part that doesn't mention the variable has one span
  stays : (e : Expression) → mentions e k ≡ false → AreSameRangesBut k e area other → span_of e area ≡ span_of e other
  stays e absent same = agree area other e (λ i here. same i (λ is. false≢true (sym absent ∙ ap (mentions e) (sym is) ∙ here)) here)

  lows : (e : Expression) → span_of e area ≡ span_of e other → (span_of e area).lo ≡ (span_of e other).lo
  lows e is = ap (λ (i : Interval). i.lo) is

  highs : (e : Expression) → span_of e area ≡ span_of e other → (span_of e area).hi ≡ (span_of e other).hi
  highs e is = ap (λ (i : Interval). i.hi) is

  module _ (a b : Expression) (same : (i : ℕ) → (i ≡ k → ⊥) → (mentions a i || mentions b i) ≡ true → range_at area i ≡ range_at other i) where
    left : AreSameRangesBut k a area other
    left i apart here = same i apart (or_left (mentions a i) (mentions b i) here)

    right : AreSameRangesBut k b area other
    right i apart here = same i apart (or_right (mentions a i) (mentions b i) here)

  pub shifts : (e : Expression) → Shifts e
  shifts (VarExpr j) is same =
      let here : j ≡ k = eqb-true j k is in
      let one : range_at area j ≡ range_at area k = ap (range_at area) here in
      let two : range_at other j ≡ range_at other k = ap (range_at other) here in
      (omega (arith, ints, ap (λ (i : Interval). i.lo) one, ap (λ (i : Interval). i.lo) two), omega (arith, ints, ap (λ (i : Interval). i.hi) one, ap (λ (i : Interval). i.hi) two))
  shifts (AddExpr a b) is same =
      elim (or_cases (shifts_with a k && not (mentions b k)) (not (mentions a k) && shifts_with b k) is) [
        | inl first ↦
            let parts = and_parts (shifts_with a k) (not (mentions b k)) first in
            let shifted = shifts a parts.0 (left a b same) in
            let rest = stays b (not-true (mentions b k) parts.1) (right a b same) in
            (omega (arith, ints, shifted.0, lows b rest), omega (arith, ints, shifted.1, highs b rest))
        | inr second ↦
            let parts = and_parts (not (mentions a k)) (shifts_with b k) second in
            let rest = stays a (not-true (mentions a k) parts.0) (left a b same) in
            let shifted = shifts b parts.1 (right a b same) in
            (omega (arith, ints, shifted.0, lows a rest), omega (arith, ints, shifted.1, highs a rest))
      ]
  shifts (SubExpr a b) is same =
      let parts = and_parts (shifts_with a k) (not (mentions b k)) is in
      let shifted = shifts a parts.0 (left a b same) in
      let rest = stays b (not-true (mentions b k) parts.1) (right a b same) in
      (omega (arith, ints, shifted.0, highs b rest), omega (arith, ints, shifted.1, lows b rest))
  shifts _ is same = absurd (false≢true is)
