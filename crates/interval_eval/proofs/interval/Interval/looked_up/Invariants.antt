use Rattle.std.proofs.Common.{◌≡◌, drop}
use Rattle.std.specs.Int.{int_min, int_max}
use Rattle.std.specs.List.{fold}
use Rattle.interval_eval.specs.Span.{values_within, lut_span}
use Rattle.interval_eval.proofs.interval.Interval.looked_up.Given as goal

abbrev pub invariant-loop-point : goal.invariant-loop-point
invariant-loop-point l =
    (fold int_min l.found.lo (values_within (drop l.point-index l.points) l.self) ≡ (lut_span l.points l.self).lo)
    × (fold int_max l.found.hi (values_within (drop l.point-index l.points) l.self) ≡ (lut_span l.points l.self).hi)
