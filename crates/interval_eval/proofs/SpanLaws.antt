-- What proofs of the crates above cite.
use Rattle.std.proofs.Common.{◌≡◌, ℕ, List, length, All}
use Rattle.std.specs.Prelude.{ℤ, pos, ◌-ℤ◌, IsTrue}
use Rattle.fixed_expr.specs.Expression.{Expression}
use Rattle.fixed_expr.specs.Shifts.{shifts_with}
use Rattle.fixed_expr.specs.Value.{IsWellFormed, StaysInRange}
use Rattle.fixed_expr.specs.inside.Alike.{AreSameIn}
use Rattle.interval_eval.specs.declared.interval.Interval.{Interval}
use Rattle.interval_eval.specs.Span.{IsInterval, AreIn, span_of, SpanStaysInRange}
use Rattle.interval_eval.specs.NestedAreas.{ArePartsOf}
use Rattle.interval_eval.specs.inside.Nested.{range_at, AreSameRangesBut}
use Rattle.interval_eval.proofs.ShiftedSpans as shifted_spans
use Rattle.interval_eval.proofs.Nesting as nesting
use Rattle.interval_eval.proofs.Ranging as ranging
use Rattle.interval_eval.proofs.Depending as depending
pub use Rattle.interval_eval.proofs.Holding.{values_lie_in_spans}
pub use Rattle.interval_eval.proofs.Ranging.{numbers_lie_in_range}

-- where the spans of all nodes stay in the range, so do their values
pub values_stay_in_range : (e : Expression) (area : List Interval) (values : List ℤ) → IsWellFormed e (length area) → AreIn area values → SpanStaysInRange e area → StaysInRange e values
values_stay_in_range e area values formed within stays = ranging.values_stay area values within e formed stays

-- the span of an expression rests on the ranges of the variables that stand in it alone
pub spans_depend_on_variables : (e : Expression) (area other : List Interval) → AreSameIn (record { lo = pos 0; hi = pos 0 }) e area other → span_of e area ≡ span_of e other
spans_depend_on_variables e area other same = depending.agree area other e same

-- no node's span over ranges leaves the range where none over wider ones does
pub nested_spans_stay_in_range : (e : Expression) (area wider : List Interval) → IsWellFormed e (length wider) → All IsInterval area → ArePartsOf area wider → SpanStaysInRange e wider → SpanStaysInRange e area
nested_spans_stay_in_range e area wider formed each parts stays = nesting.stays area wider each parts e formed stays

-- the span of an expression that shifts with a variable shifts, at each end, by just what the variable's range shifts by
pub spans_shift_with_variables : (e : Expression) (k : ℕ) (area other : List Interval) → IsTrue (shifts_with e k) → AreSameRangesBut k e area other →
    ((span_of e area).lo -ℤ (range_at area k).lo ≡ (span_of e other).lo -ℤ (range_at other k).lo)
    × ((span_of e area).hi -ℤ (range_at area k).hi ≡ (span_of e other).hi -ℤ (range_at other k).hi)
spans_shift_with_variables e k area other is same = shifted_spans.shifts k area other e is same
