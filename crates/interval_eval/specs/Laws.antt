-- What holds of every span.
use Rattle.std.specs.Prelude.{List, length}
use Rattle.std.specs.List.{All}
use Rattle.fixed_expr.specs.Expression.{Expression}
use Rattle.fixed_expr.specs.Value.{IsWellFormed}
use Rattle.interval_eval.specs.declared.interval.Interval.{Interval}
use Rattle.interval_eval.specs.Span.{IsInterval, SpanStaysInRange, span_of}
use Rattle.interval_eval.specs.NestedAreas.{IsPartOf, ArePartsOf}

-- a span over ranges that lie in wider ones lies in the span over these; so does that of each node, which is an expression too
abbrev pub SpansNest : Type 0
SpansNest =
    (e : Expression) (area wider : List Interval) → IsWellFormed e (length wider) → All IsInterval area → ArePartsOf area wider → IsPartOf (span_of e area) (span_of e wider)

-- no node's span over ranges leaves the range where none over wider ones does
abbrev pub NestedSpansStay : Type 0
NestedSpansStay =
    (e : Expression) (area wider : List Interval) → IsWellFormed e (length wider) → All IsInterval area → ArePartsOf area wider → SpanStaysInRange e wider → SpanStaysInRange e area
