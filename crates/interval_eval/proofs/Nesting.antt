-- Spans over ranges lie in spans over wider ranges.
use Rattle.std.proofs.Common.{◌≡◌, ℕ, zero, suc, ◌<◌, List, [], ◌∷◌, length, All, refl, sym, ap, subst, Bool, true, false, arith, slice_index_or}
use Rattle.std.specs.Prelude.{ℤ, pos, nat_abs, neg_ℤ, ◌*ℤ◌, ◌≤ℤ◌, int_le, if◌then◌else◌}
use Rattle.std.specs.Int.{int_min, int_max}
use Rattle.std.proofs.lemmas.Int.{ints, clamps}
use Rattle.fixed_expr.specs.Expression.{Expression, NumExpr, VarExpr, NegExpr, AddExpr, SubExpr, MulExpr, DivExpr, MinExpr, MaxExpr, AbsExpr, LutExpr}
use Rattle.fixed_expr.specs.Value.{IsWellFormed}
use Rattle.interval_eval.specs.declared.interval.Interval.{Interval}
use Rattle.interval_eval.specs.Span.{IsInterval, IsIn, EndsFit, SpanFits, SpanStaysInRange, neg_span, add_span, sub_span, mul_span, div_span, min_span, max_span, abs_span, span_of}
use Rattle.interval_eval.specs.NestedAreas.{IsPartOf, ArePartsOf}
use Rattle.fixed_expr.proofs.EachNode.{follows}
use Rattle.fixed_expr.proofs.Laws.{floors_in_order}
use Rattle.interval_eval.proofs.Holding.{in_product, in_absolute, spans_ordered}
use Rattle.interval_eval.proofs.Lookups.{part_lookup}
use Rattle.interval_eval.proofs.Ranging.{between}

same_count : (area wider : List Interval) → ArePartsOf area wider → length area ≡ length wider
same_count [] [] h = refl
same_count (i ∷ area) (j ∷ wider) h = ap suc (same_count area wider h.1)
same_count _ _ h = absurd h

part_variable : (area wider : List Interval) (i : ℕ) (d : Interval) → i < length wider → ArePartsOf area wider → IsPartOf (slice_index_or area i d) (slice_index_or wider i d)
part_variable [] [] i d below h = absurd (omega (arith, below))
part_variable (a ∷ area) (b ∷ wider) zero d below h = h.0
part_variable (a ∷ area) (b ∷ wider) (suc i) d below h = part_variable area wider i d (omega (arith, below)) h.1
part_variable _ _ i d below h = absurd h

part_negation : (a b : Interval) → IsPartOf a b → IsPartOf (neg_span a) (neg_span b)
part_negation a b h = (omega (arith, ints), omega (arith, ints))

part_sum : (a b c d : Interval) → IsPartOf a c → IsPartOf b d → IsPartOf (add_span a b) (add_span c d)
part_sum a b c d h k = (omega (arith, ints), omega (arith, ints))

part_difference : (a b c d : Interval) → IsPartOf a c → IsPartOf b d → IsPartOf (sub_span a b) (sub_span c d)
part_difference a b c d h k = (omega (arith, ints), omega (arith, ints))

part_minimum : (a b c d : Interval) → IsPartOf a c → IsPartOf b d → IsPartOf (min_span a b) (min_span c d)
part_minimum a b c d h k = (omega (arith, ints, clamps), omega (arith, ints, clamps))

part_maximum : (a b c d : Interval) → IsPartOf a c → IsPartOf b d → IsPartOf (max_span a b) (max_span c d)
part_maximum a b c d h k = (omega (arith, ints, clamps), omega (arith, ints, clamps))

part_quotient : (a c : Interval) (k : ℤ) → pos 1 ≤ℤ k → IsPartOf a c → IsPartOf (div_span a k) (div_span c k)
part_quotient a c k some h = (floors_in_order c.lo a.lo k some h.0, floors_in_order a.hi c.hi k some h.1)

-- the ends of a part lie in the whole
ends_in : (a c : Interval) → IsInterval a → IsPartOf a c → IsIn c a.lo × IsIn c a.hi
ends_in a c order h = ((h.0, omega (arith, ints, order, h.1)), (omega (arith, ints, order, h.0), h.1))

-- each product of ends of the parts is one of numbers of the wholes
part_product : (a b c d : Interval) → IsInterval a → IsInterval b → IsPartOf a c → IsPartOf b d → IsPartOf (mul_span a b) (mul_span c d)
part_product a b c d first second h k =
    let in_c = ends_in a c first h in
    let in_d = ends_in b d second k in
    corners (a.lo *ℤ b.lo) (a.lo *ℤ b.hi) (a.hi *ℤ b.lo) (a.hi *ℤ b.hi) (mul_span c d)
    (in_product c d a.lo b.lo in_c.0 in_d.0)
    (in_product c d a.lo b.hi in_c.0 in_d.1)
    (in_product c d a.hi b.lo in_c.1 in_d.0)
    (in_product c d a.hi b.hi in_c.1 in_d.1)
  where
    corners : (p q r s : ℤ) (whole : Interval) → IsIn whole p → IsIn whole q → IsIn whole r → IsIn whole s → (whole.lo ≤ℤ int_min (int_min p q) (int_min r s)) × (int_max (int_max p q) (int_max r s) ≤ℤ whole.hi)
    corners p q r s whole hp hq hr hs = (omega (arith, ints, clamps, hp.0, hq.0, hr.0, hs.0), omega (arith, ints, clamps, hp.1, hq.1, hr.1, hs.1))

part_absolute : (a c : Interval) → IsInterval a → IsPartOf a c → IsPartOf (abs_span a) (abs_span c)
part_absolute a c order h = (by (int_le (pos 0) a.lo) (int_le a.hi (pos 0)) refl refl, omega (arith, ints, clamps))
  where
    least : (x : ℤ) → a.lo ≤ℤ x → x ≤ℤ a.hi → (abs_span c).lo ≤ℤ pos (nat_abs x)
    least x low high = (in_absolute c x (omega (arith, ints, h.0, low), omega (arith, ints, h.1, high))).0

    by : (s t : Bool) → int_le (pos 0) a.lo ≡ s → int_le a.hi (pos 0) ≡ t → (abs_span c).lo ≤ℤ (if s then a.lo else (if t then neg_ℤ a.hi else pos 0))
    by true t e f = bound (abs_span c).lo a.lo e (least a.lo (omega (arith, ints)) order)
      where
        bound : (l x : ℤ) → int_le (pos 0) x ≡ true → l ≤ℤ pos (nat_abs x) → l ≤ℤ x
        bound l x some below = omega (arith, ints)
    by false true e f = bound (abs_span c).lo a.hi f (least a.hi order (omega (arith, ints)))
      where
        bound : (l x : ℤ) → int_le x (pos 0) ≡ true → l ≤ℤ pos (nat_abs x) → l ≤ℤ neg_ℤ x
        bound l x some below = omega (arith, ints)
    by false false e f = least (pos 0) (low a.lo e) (high a.hi f)
      where
        low : (x : ℤ) → int_le (pos 0) x ≡ false → x ≤ℤ pos 0
        low x e = omega (arith, ints)

        high : (x : ℤ) → int_le x (pos 0) ≡ false → pos 0 ≤ℤ x
        high x e = omega (arith, ints)

module _ (area wider : List Interval) (each : All IsInterval area) (parts : ArePartsOf area wider) where
  -- the narrower span is an interval
  ordered : (e : Expression) → IsWellFormed e (length wider) → IsInterval (span_of e area)
  ordered e formed = spans_ordered e area (subst (IsWellFormed e) (sym (same_count area wider parts)) formed) each

  pub nested : (e : Expression) → IsWellFormed e (length wider) → IsPartOf (span_of e area) (span_of e wider)
  nested (NumExpr k) formed = (omega (arith, ints), omega (arith, ints))
  nested (VarExpr i) formed = part_variable area wider i (record { lo = pos 0; hi = pos 0 }) formed parts
  nested (NegExpr a) formed = part_negation (span_of a area) (span_of a wider) (nested a formed)
  nested (AddExpr a b) formed = part_sum (span_of a area) (span_of b area) (span_of a wider) (span_of b wider) (nested a formed.0) (nested b formed.1)
  nested (SubExpr a b) formed = part_difference (span_of a area) (span_of b area) (span_of a wider) (span_of b wider) (nested a formed.0) (nested b formed.1)
  nested (MulExpr a b) formed = part_product (span_of a area) (span_of b area) (span_of a wider) (span_of b wider) (ordered a formed.0) (ordered b formed.1) (nested a formed.0) (nested b formed.1)
  nested (DivExpr a k) formed = part_quotient (span_of a area) (span_of a wider) k formed.1 (nested a formed.0)
  nested (MinExpr a b) formed = part_minimum (span_of a area) (span_of b area) (span_of a wider) (span_of b wider) (nested a formed.0) (nested b formed.1)
  nested (MaxExpr a b) formed = part_maximum (span_of a area) (span_of b area) (span_of a wider) (span_of b wider) (nested a formed.0) (nested b formed.1)
  nested (AbsExpr a) formed = part_absolute (span_of a area) (span_of a wider) (ordered a formed) (nested a formed)
  nested (LutExpr a points) formed = part_lookup points (span_of a area) (span_of a wider) formed.1 (ordered a formed.0) (nested a formed.0)

  -- where the ends of the wider span lie in the range, so do those of the narrower
  fits : (e : Expression) → IsWellFormed e (length wider) → EndsFit (span_of e wider) → EndsFit (span_of e area)
  fits e formed ends =
      let s = span_of e area in
      let w = span_of e wider in
      let inside = ends_in s w (ordered e formed) (nested e formed) in
      (between w.lo w.hi s.lo ends.0 ends.1 inside.0.0 inside.0.1, between w.lo w.hi s.hi ends.0 ends.1 inside.1.0 inside.1.1)

  pub stays : (e : Expression) → IsWellFormed e (length wider) → SpanStaysInRange e wider → SpanStaysInRange e area
  stays = follows SpanFits SpanFits wider area (length wider) fits
