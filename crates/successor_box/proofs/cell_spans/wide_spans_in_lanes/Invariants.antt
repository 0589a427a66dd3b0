use Rattle.std.proofs.Common.{◌≡◌, ℕ, ◌<◌, length, get_or}
use Rattle.fixed_expr.specs.Expression.{expression_of}
use Rattle.interval_eval.specs.LaneSpans.{area_in}
use Rattle.interval_eval.specs.Span.{span_of}
use Rattle.successor_box.specs.inside.Area.{no_range}
use Rattle.successor_box.proofs.cell_spans.wide_spans_in_lanes.Given as goal

-- the intervals so far
abbrev pub invariant-loop-j : goal.invariant-loop-j
invariant-loop-j l = record { long : length l.spans ≡ 32; each : (i : ℕ) → i < l.j → get_or l.spans i no_range ≡ span_of (expression_of l.e) (area_in l.columns i) }
