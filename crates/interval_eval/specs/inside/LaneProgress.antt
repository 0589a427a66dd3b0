-- How far an operation on the intervals of many lanes has come.
use Rattle.std.specs.Prelude.{ℕ}
use Rattle.fixed_expr.specs.inside.Progress.{AreDone}
use Rattle.interval_eval.specs.declared.interval.Interval.{Interval}
use Rattle.interval_eval.specs.declared.columns.IntervalColumn.{IntervalColumn}

-- The first n lanes are done, and the others as they were.
pub record AreLanesDone (n : ℕ) (start found : IntervalColumn) (wanted : ℕ → Interval) : Type 0 where
  pub low : AreDone n start.lo found.lo (λ k. (wanted k).lo)
  pub high : AreDone n start.hi found.hi (λ k. (wanted k).hi)
