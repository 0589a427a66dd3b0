use Rattle.interval_eval.specs.Span.{abs_span}
use Rattle.interval_eval.specs.LaneSpans.{interval_in}
use Rattle.interval_eval.specs.inside.LaneProgress.{AreLanesDone}
use Rattle.interval_eval.proofs.columns.IntervalColumn.abs_spans.Given as goal

abbrev pub invariant-lanes : goal.invariant-lanes
invariant-lanes l = AreLanesDone l.k l.initial.self l.self (λ k. abs_span (interval_in l.initial.self k))
