-- The span of an expression over ranges of its variables, in unbounded whole numbers.
use Rattle.std.specs.Prelude.{ℤ, pos, neg_ℤ, ◌+ℤ◌, ◌-ℤ◌, ◌*ℤ◌, ◌≤ℤ◌, int_le, Bool, ◌&&◌, List, [], ◌∷◌, map, slice_index_or, if◌then◌else◌}
use Rattle.std.specs.List.{fold, filter}
use Rattle.std.specs.Int.{int_min, int_max}
use Rattle.fixed_expr.specs.Range.{IsInRange}
use Rattle.fixed_expr.specs.DivExpr.{floor_div}
use Rattle.fixed_expr.specs.Curves.{curve_value}
use Rattle.fixed_expr.specs.Expression.{Expression, AllNodes, NumExpr, VarExpr, NegExpr, AddExpr, SubExpr, MulExpr, DivExpr, MinExpr, MaxExpr, AbsExpr, LutExpr}
use Rattle.interval_eval.specs.declared.interval.Interval.{Interval}

-- the low end is at most the high end
abbrev pub IsInterval : Interval → Type 0
IsInterval i = i.lo ≤ℤ i.hi

-- a number lies in an interval
abbrev pub IsIn : Interval → ℤ → Type 0
IsIn i x = (i.lo ≤ℤ x) × (x ≤ℤ i.hi)

-- each value lies in its range, one for each
abbrev pub AreIn : List Interval → List ℤ → Type 0
AreIn [] [] = Unit {0}
AreIn [] (x ∷ values) = ⊥
AreIn (i ∷ area) [] = ⊥
AreIn (i ∷ area) (x ∷ values) = IsIn i x × AreIn area values

-- both ends of an interval lie in the range
abbrev pub EndsFit : Interval → Type 0
EndsFit i = IsInRange i.lo × IsInRange i.hi

-- by interval arithmetic, the interval of negated numbers
abbrev pub neg_span : Interval → Interval
neg_span a = record { lo = neg_ℤ a.hi; hi = neg_ℤ a.lo }

-- by interval arithmetic, the interval of sums
abbrev pub add_span : Interval → Interval → Interval
add_span a b = record { lo = a.lo +ℤ b.lo; hi = a.hi +ℤ b.hi }

-- by interval arithmetic, the interval of differences
abbrev pub sub_span : Interval → Interval → Interval
sub_span a b = record { lo = a.lo -ℤ b.hi; hi = a.hi -ℤ b.lo }

-- the least and the greatest of four numbers
abbrev pub hull_of : ℤ → ℤ → ℤ → ℤ → Interval
hull_of a b c d = record { lo = int_min (int_min a b) (int_min c d); hi = int_max (int_max a b) (int_max c d) }

-- the least and the greatest of the four products of ends
abbrev pub mul_span : Interval → Interval → Interval
mul_span a b = hull_of (a.lo *ℤ b.lo) (a.lo *ℤ b.hi) (a.hi *ℤ b.lo) (a.hi *ℤ b.hi)

-- by interval arithmetic, the interval of quotients by one number
abbrev pub div_span : Interval → ℤ → Interval
div_span a k = record { lo = floor_div a.lo k; hi = floor_div a.hi k }

-- by interval arithmetic, the interval of lesser numbers
abbrev pub min_span : Interval → Interval → Interval
min_span a b = record { lo = int_min a.lo b.lo; hi = int_min a.hi b.hi }

-- by interval arithmetic, the interval of greater numbers
abbrev pub max_span : Interval → Interval → Interval
max_span a b = record { lo = int_max a.lo b.lo; hi = int_max a.hi b.hi }

-- 0 is the least absolute value where the range holds numbers of both signs
abbrev pub abs_span : Interval → Interval
abs_span a = record {
  lo = if int_le (pos 0) a.lo then a.lo else (if int_le a.hi (pos 0) then neg_ℤ a.hi else pos 0);
  hi = int_max (neg_ℤ a.lo) a.hi;
}

-- whether a number lies in an interval
abbrev pub is_in : Interval → ℤ → Bool
is_in i x = int_le i.lo x && int_le x i.hi

-- the values of a curve at those of its points that lie in a range
abbrev pub values_within : List (ℤ × ℤ) → Interval → List ℤ
values_within points a = map (λ (p : ℤ × ℤ). p.1) (filter (λ (p : ℤ × ℤ). is_in a p.0) points)

-- the least and the greatest of the values at the ends of a range and at the points in it
abbrev pub lut_span : List (ℤ × ℤ) → Interval → Interval
lut_span points a = record {
  lo = fold int_min (curve_value points a.lo) (curve_value points a.hi ∷ values_within points a);
  hi = fold int_max (curve_value points a.lo) (curve_value points a.hi ∷ values_within points a);
}

-- the span of an expression, where each variable lies in its range
abbrev pub span_of : Expression → List Interval → Interval
span_of (NumExpr k) area = record { lo = k; hi = k }
span_of (VarExpr i) area = slice_index_or area i (record { lo = pos 0; hi = pos 0 })
span_of (NegExpr a) area = neg_span (span_of a area)
span_of (AddExpr a b) area = add_span (span_of a area) (span_of b area)
span_of (SubExpr a b) area = sub_span (span_of a area) (span_of b area)
span_of (MulExpr a b) area = mul_span (span_of a area) (span_of b area)
span_of (DivExpr a k) area = div_span (span_of a area) k
span_of (MinExpr a b) area = min_span (span_of a area) (span_of b area)
span_of (MaxExpr a b) area = max_span (span_of a area) (span_of b area)
span_of (AbsExpr a) area = abs_span (span_of a area)
span_of (LutExpr a points) area = lut_span points (span_of a area)

-- the ends of an expression's span lie in the range
abbrev pub SpanFits : Expression → List Interval → Type 0
SpanFits e area = EndsFit (span_of e area)

-- the ends of every node's span lie in the range
abbrev pub SpanStaysInRange : Expression → List Interval → Type 0
SpanStaysInRange e area = AllNodes SpanFits e area
