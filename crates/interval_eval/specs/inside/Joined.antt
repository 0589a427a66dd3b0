-- One step to the span of a table of points.
use Rattle.std.specs.Prelude.{ℤ, if◌then◌else◌}
use Rattle.std.specs.Int.{int_min, int_max}
use Rattle.interval_eval.specs.declared.interval.Interval.{Interval}
use Rattle.interval_eval.specs.Span.{is_in}

-- an interval widened to the value at a point, where that lies in a range
abbrev pub joined_at : Interval → Interval → ℤ × ℤ → Interval
joined_at range s p = if is_in range p.0 then record { lo = int_min s.lo p.1; hi = int_max s.hi p.1 } else s
