-- What an operation on two numbers makes of two intervals.
use Rattle.std.specs.Prelude.{ℕ}
use Rattle.fixed_expr.specs.declared.operation.Binary.{Binary}
use Rattle.fixed_expr.specs.declared.operation.Binary.TheVariants.{AddOp, SubOp, MulOp, MinOp, MaxOp}
use Rattle.interval_eval.specs.declared.interval.Interval.{Interval}
use Rattle.interval_eval.specs.Span.{add_span, sub_span, mul_span, min_span, max_span}
use Rattle.interval_eval.specs.declared.columns.IntervalColumn.{IntervalColumn}
use Rattle.interval_eval.specs.LaneSpans.{interval_in}

-- the span of a binary operation on two intervals
abbrev pub combined_interval : Binary → Interval → Interval → Interval
combined_interval AddOp a b = add_span a b
combined_interval SubOp a b = sub_span a b
combined_interval MulOp a b = mul_span a b
combined_interval MinOp a b = min_span a b
combined_interval MaxOp a b = max_span a b

-- the spans of a binary operation on two columns of intervals, lane by lane
abbrev pub combined_column : Binary → IntervalColumn → IntervalColumn → (ℕ → Interval)
combined_column binary a b = λ k. combined_interval binary (interval_in a k) (interval_in b k)
