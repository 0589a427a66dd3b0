use Rattle.interval_eval.specs.Span.{lut_span}
use Rattle.interval_eval.specs.LaneSpans.{interval_in}
use Rattle.interval_eval.specs.inside.LaneProgress.{AreLanesDone}
use Rattle.interval_eval.proofs.columns.IntervalColumn.lut_spans.Given as goal

abbrev pub invariant-lanes : goal.invariant-lanes
invariant-lanes l = AreLanesDone l.k l.initial.self l.self (λ k. lut_span l.curve (interval_in l.initial.self k))
