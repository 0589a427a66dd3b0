-- What lies between numbers of the range lies in it, and so do the values of an expression whose spans do.
use Rattle.std.proofs.Common.{◌^◌, ◌<◌, List, length, arith}
use Rattle.std.specs.Prelude.{ℤ, nat_abs, ◌≤ℤ◌}
use Rattle.std.proofs.lemmas.Int.{ints}
use Rattle.fixed_expr.specs.Range.{IsInRange}
use Rattle.fixed_expr.specs.Expression.{Expression}
use Rattle.fixed_expr.specs.Value.{IsWellFormed, value_of, ValueFits, StaysInRange}
use Rattle.interval_eval.specs.declared.interval.Interval.{Interval}
use Rattle.interval_eval.specs.Span.{IsIn, AreIn, EndsFit, span_of, SpanFits, SpanStaysInRange}
use Rattle.fixed_expr.proofs.EachNode.{follows}
use Rattle.interval_eval.proofs.Holding.{values_lie_in_spans}

pub between : (low high x : ℤ) → IsInRange low → IsInRange high → low ≤ℤ x → x ≤ℤ high → IsInRange x
between low high x p q above below =
    let low_fits : nat_abs low < 2 ^ 127 = p in
    let high_fits : nat_abs high < 2 ^ 127 = q in
    omega (arith, ints, above, below)

-- a number of an interval lies in the range where the ends do
pub numbers_lie_in_range : (i : Interval) (x : ℤ) → EndsFit i → IsIn i x → IsInRange x
numbers_lie_in_range i x ends inside = between i.lo i.hi x ends.0 ends.1 inside.0 inside.1

module _ (area : List Interval) (values : List ℤ) (within : AreIn area values) where
  value_fits : (e : Expression) → IsWellFormed e (length area) → EndsFit (span_of e area) → IsInRange (value_of e values)
  value_fits e formed ends = numbers_lie_in_range (span_of e area) (value_of e values) ends (values_lie_in_spans e area values formed within)

  pub values_stay : (e : Expression) → IsWellFormed e (length area) → SpanStaysInRange e area → StaysInRange e values
  values_stay = follows SpanFits ValueFits area values (length area) value_fits
