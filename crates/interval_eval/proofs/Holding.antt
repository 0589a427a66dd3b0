-- The span of a node holds its values, where those of its parts do.
use Rattle.std.proofs.Common.{◌≡◌, ℕ, zero, suc, ◌<◌, List, [], ◌∷◌, length, All, Option, None, Some, SomeIff, IfSome, subst, sym, Bool, true, false, arith, refl, slice_index_or}
use Rattle.std.specs.Prelude.{ℤ, pos, nat_abs, neg_ℤ, ◌+ℤ◌, ◌-ℤ◌, ◌*ℤ◌, ◌≤ℤ◌, int_le, if◌then◌else◌}
use Rattle.std.specs.Int.{int_min, int_max}
use Rattle.std.proofs.lemmas.Int.{ints, clamps}
use Rattle.std.proofs.lemmas.List.Elements.{All-head, All-tail}
use Rattle.fixed_expr.specs.DivExpr.{floor_div}
use Rattle.fixed_expr.specs.Expression.{Expression, NumExpr, VarExpr, NegExpr, AddExpr, SubExpr, MulExpr, DivExpr, MinExpr, MaxExpr, AbsExpr, LutExpr}
use Rattle.fixed_expr.specs.Value.{IsWellFormed, value_of}
use Rattle.interval_eval.specs.declared.interval.Interval.{Interval}
use Rattle.interval_eval.specs.Span.{IsInterval, IsIn, AreIn, SpanStaysInRange, neg_span, add_span, sub_span, mul_span, div_span, min_span, max_span, abs_span, span_of}
use Rattle.interval_eval.proofs.Lookups.{in_lookup}
use Rattle.fixed_expr.proofs.Laws.{floors_in_order}
use Rattle.interval_eval.proofs.Integers.{multiple_between, product_between}

in_variable : (area : List Interval) (values : List ℤ) (i : ℕ) (d : Interval) (z : ℤ) → i < length area → AreIn area values → IsIn (slice_index_or area i d) (slice_index_or values i z)
in_variable [] [] i d z below h = absurd (omega arith)
in_variable (a ∷ area) (x ∷ values) zero d z below h = h.0
in_variable (a ∷ area) (x ∷ values) (suc i) d z below h = in_variable area values i d z (omega arith) h.1
in_variable _ _ i d z below h = absurd h

in_negation : (a : Interval) (x : ℤ) → IsIn a x → IsIn (neg_span a) (neg_ℤ x)
in_negation a x h = (omega (arith, ints), omega (arith, ints))

in_sum : (a b : Interval) (x y : ℤ) → IsIn a x → IsIn b y → IsIn (add_span a b) (x +ℤ y)
in_sum a b x y h k = (omega (arith, ints), omega (arith, ints))

in_difference : (a b : Interval) (x y : ℤ) → IsIn a x → IsIn b y → IsIn (sub_span a b) (x -ℤ y)
in_difference a b x y h k = (omega (arith, ints), omega (arith, ints))

in_minimum : (a b : Interval) (x y : ℤ) → IsIn a x → IsIn b y → IsIn (min_span a b) (int_min x y)
in_minimum a b x y h k = (omega (arith, ints, clamps), omega (arith, ints, clamps))

in_maximum : (a b : Interval) (x y : ℤ) → IsIn a x → IsIn b y → IsIn (max_span a b) (int_max x y)
in_maximum a b x y h k = (omega (arith, ints, clamps), omega (arith, ints, clamps))

in_quotient : (a : Interval) (k x : ℤ) → pos 1 ≤ℤ k → IsIn a x → IsIn (div_span a k) (floor_div x k)
in_quotient a k x some h = (floors_in_order a.lo x k some h.0, floors_in_order x a.hi k some h.1)

-- x times y lies between x times the ends of b, which lie between products of ends
pub in_product : (a b : Interval) (x y : ℤ) → IsIn a x → IsIn b y → IsIn (mul_span a b) (x *ℤ y)
in_product a b x y h k =
    let across = multiple_between x b.lo b.hi y k in
    let low = product_between b.lo a.lo a.hi x h in
    let high = product_between b.hi a.lo a.hi x h in
    corners (a.lo *ℤ b.lo) (a.lo *ℤ b.hi) (a.hi *ℤ b.lo) (a.hi *ℤ b.hi) (x *ℤ b.lo) (x *ℤ b.hi) (x *ℤ y) low high across
  where
    corners : (p q r s low high x : ℤ) → (int_min p r ≤ℤ low) × (low ≤ℤ int_max p r) → (int_min q s ≤ℤ high) × (high ≤ℤ int_max q s) → (int_min low high ≤ℤ x) × (x ≤ℤ int_max low high) → (int_min (int_min p q) (int_min r s) ≤ℤ x) × (x ≤ℤ int_max (int_max p q) (int_max r s))
    corners p q r s low high x l h across = (omega (arith, ints, clamps), omega (arith, ints, clamps))

pub in_absolute : (a : Interval) (x : ℤ) → IsIn a x → IsIn (abs_span a) (pos (nat_abs x))
in_absolute a x h = (by (int_le (pos 0) a.lo) (int_le a.hi (pos 0)) refl refl, omega (arith, ints, clamps))
  where
    by : (s t : Bool) → int_le (pos 0) a.lo ≡ s → int_le a.hi (pos 0) ≡ t → (if s then a.lo else (if t then neg_ℤ a.hi else pos 0)) ≤ℤ pos (nat_abs x)
    by true t e f = omega (arith, ints)
    by false true e f = omega (arith, ints)
    by false false e f = omega (arith, ints)

-- a value over the area lies in the span
pub values_lie_in_spans : (e : Expression) (area : List Interval) (values : List ℤ) → IsWellFormed e (length area) → AreIn area values → IsIn (span_of e area) (value_of e values)
values_lie_in_spans (NumExpr k) area values formed h = (omega (arith, ints), omega (arith, ints))
values_lie_in_spans (VarExpr i) area values formed h = in_variable area values i (record { lo = pos 0; hi = pos 0 }) (pos 0) formed h
values_lie_in_spans (NegExpr a) area values formed h = in_negation (span_of a area) (value_of a values) (values_lie_in_spans a area values formed h)
values_lie_in_spans (AddExpr a b) area values formed h =
    in_sum (span_of a area) (span_of b area) (value_of a values) (value_of b values) (values_lie_in_spans a area values formed.0 h) (values_lie_in_spans b area values formed.1 h)
values_lie_in_spans (SubExpr a b) area values formed h =
    in_difference (span_of a area) (span_of b area) (value_of a values) (value_of b values) (values_lie_in_spans a area values formed.0 h) (values_lie_in_spans b area values formed.1 h)
values_lie_in_spans (MulExpr a b) area values formed h =
    in_product (span_of a area) (span_of b area) (value_of a values) (value_of b values) (values_lie_in_spans a area values formed.0 h) (values_lie_in_spans b area values formed.1 h)
values_lie_in_spans (DivExpr a k) area values formed h =
    in_quotient (span_of a area) k (value_of a values) formed.1 (values_lie_in_spans a area values formed.0 h)
values_lie_in_spans (MinExpr a b) area values formed h =
    in_minimum (span_of a area) (span_of b area) (value_of a values) (value_of b values) (values_lie_in_spans a area values formed.0 h) (values_lie_in_spans b area values formed.1 h)
values_lie_in_spans (MaxExpr a b) area values formed h =
    in_maximum (span_of a area) (span_of b area) (value_of a values) (value_of b values) (values_lie_in_spans a area values formed.0 h) (values_lie_in_spans b area values formed.1 h)
values_lie_in_spans (AbsExpr a) area values formed h = in_absolute (span_of a area) (value_of a values) (values_lie_in_spans a area values formed h)
values_lie_in_spans (LutExpr a points) area values formed h = in_lookup points (span_of a area) (value_of a values) formed.1 (values_lie_in_spans a area values formed.0 h)

lows : List Interval → List ℤ
lows [] = []
lows (i ∷ area) = i.lo ∷ lows area

lows_lie : (area : List Interval) → All IsInterval area → AreIn area (lows area)
unfolding lows
lows_lie [] each = tt
lows_lie (i ∷ area) each = ((omega (arith, ints), All-head IsInterval i area each), lows_lie area (All-tail IsInterval i area each))

-- a span over intervals is one, since it holds the value at the low ends
pub spans_ordered : (e : Expression) (area : List Interval) → IsWellFormed e (length area) → All IsInterval area → IsInterval (span_of e area)
spans_ordered e area formed each =
    let h = values_lie_in_spans e area (lows area) formed (lows_lie area each) in
    omega (arith, ints, h.0, h.1)

pub span_holds : (e : Expression) (area : List Interval) (r : Option Interval) → IsWellFormed e (length area) → SomeIff r (SpanStaysInRange e area) (span_of e area) → IfSome r (λ s. (values : List ℤ) → AreIn area values → IsIn s (value_of e values))
span_holds e area None formed exact = tt
span_holds e area (Some s) formed exact =
    λ values h. let Holds : Interval → Type 0 = λ i. IsIn i (value_of e values) in subst Holds (sym exact.1) (values_lie_in_spans e area values formed h)

-- what is answered over intervals is one
pub span_ordered : (e : Expression) (area : List Interval) (r : Option Interval) → IsWellFormed e (length area) → SomeIff r (SpanStaysInRange e area) (span_of e area) → All IsInterval area → IfSome r IsInterval
span_ordered e area None formed exact each = tt
span_ordered e area (Some s) formed exact each = subst IsInterval (sym exact.1) (spans_ordered e area formed each)
