-- Intervals in many lanes, by the columns of their ends.
use Rattle.std.proofs.Common.{◌≡◌, ℕ, ◌+◌, ◌<◌, List, ap₂, subst, ◌∙◌, arith, to_z, of_z, w64}
use Rattle.std.specs.Prelude.{ℤ, ◌≤ℤ◌, slice_set}
use Rattle.std.specs.Int.{int_min, int_max}
use Rattle.std.proofs.lemmas.Int.{ints}
use Rattle.fixed_expr.specs.NarrowValues.{IsNarrow}
use Rattle.fixed_expr.specs.Lanes.{at, AreNarrow, IsColumnOf, IsNarrowColumnOf}
use Rattle.fixed_expr.proofs.Laws.{one_lane_more}
use Rattle.interval_eval.specs.declared.interval.Interval.{Interval}
use Rattle.interval_eval.specs.declared.columns.IntervalColumn.{IntervalColumn}
use Rattle.interval_eval.specs.Span.{hull_of}
use Rattle.interval_eval.specs.LaneSpans.{interval_in, AreNarrowIntervals, IsIntervalColumnOf}
use Rattle.interval_eval.specs.inside.LaneProgress.{AreLanesDone}

-- one lane more
pub one_span_lane_more : (start found : IntervalColumn) (wanted : ℕ → Interval) (n : ℕ) (lo hi : ℤ) → n < 32 → AreLanesDone n start found wanted → IsNarrow lo → lo ≡ (wanted n).lo → IsNarrow hi → hi ≡ (wanted n).hi →
    AreLanesDone (n + 1) start (record { lo = slice_set found.lo n (to_z w64 (of_z w64 lo)); hi = slice_set found.hi n (to_z w64 (of_z w64 hi)) }) wanted
one_span_lane_more start found wanted n lo hi here done narrow_low is_low narrow_high is_high =
    record { low = one_lane_more start.lo found.lo (λ k. (wanted k).lo) n lo here done.low narrow_low is_low; high = one_lane_more start.hi found.hi (λ k. (wanted k).hi) n hi here done.high narrow_high is_high }

-- a lane that is still to come is as it was
pub as_it_was : (start found : IntervalColumn) (wanted : ℕ → Interval) (n : ℕ) → AreLanesDone n start found wanted → interval_in found n ≡ interval_in start n
as_it_was start found wanted n done = ap₂ (λ (lo hi : ℤ). record { lo = lo; hi = hi }) (done.low.rest n (omega arith)) (done.high.rest n (omega arith))

-- a corner between ends of 64 bits lies there too
pub corner_fails : (corner : ℕ → ℤ) (wanted : ℕ → Interval) → ((k : ℕ) → ((wanted k).lo ≤ℤ corner k) × (corner k ≤ℤ (wanted k).hi)) → ¬ (AreNarrow corner) → ¬ (AreNarrowIntervals wanted)
corner_fails corner wanted inside out h = out (λ k lt. between (wanted k).lo (wanted k).hi (corner k) (h k lt).0 (h k lt).1 (inside k).0 (inside k).1)
  where
    between : (low high x : ℤ) → IsNarrow low → IsNarrow high → low ≤ℤ x → x ≤ℤ high → IsNarrow x
    between low high x p q above below = (omega (arith, ints, p.0, above), omega (arith, ints, q.1, below))

-- the least and the greatest of four columns that hold the corners
pub hull_holds : (found : IntervalColumn) (p q r s : ℕ → ℤ) (a b c d : List ℤ) → IsColumnOf a p → IsColumnOf b q → IsColumnOf c r → IsColumnOf d s
    → IsNarrowColumnOf found.lo (λ k. int_min (int_min (at a k) (at b k)) (int_min (at c k) (at d k))) → IsNarrowColumnOf found.hi (λ k. int_max (int_max (at a k) (at b k)) (int_max (at c k) (at d k)))
    → AreNarrowIntervals (λ k. hull_of (p k) (q k) (r k) (s k)) × IsIntervalColumnOf found (λ k. hull_of (p k) (q k) (r k) (s k))
hull_holds found p q r s a b c d ha hb hc hd low high =
    let lows : (k : ℕ) → k < 32 → int_min (int_min (at a k) (at b k)) (int_min (at c k) (at d k)) ≡ (hull_of (p k) (q k) (r k) (s k)).lo = λ k lt. ap₂ int_min (ap₂ int_min (ha k lt) (hb k lt)) (ap₂ int_min (hc k lt) (hd k lt)) in
    let highs : (k : ℕ) → k < 32 → int_max (int_max (at a k) (at b k)) (int_max (at c k) (at d k)) ≡ (hull_of (p k) (q k) (r k) (s k)).hi = λ k lt. ap₂ int_max (ap₂ int_max (ha k lt) (hb k lt)) (ap₂ int_max (hc k lt) (hd k lt)) in (
      (λ k lt. (subst IsNarrow (lows k lt) (low.0 k lt), subst IsNarrow (highs k lt) (high.0 k lt))),
      (λ k lt. (low.1 k lt ∙ lows k lt, high.1 k lt ∙ highs k lt)),
    )
