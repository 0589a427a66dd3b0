use Rattle.std.proofs.Common.{ℕ}
use Rattle.std.specs.Prelude.{ℤ, ◌*ℤ◌}
use Rattle.interval_eval.specs.declared.interval.Interval.{Interval}
use Rattle.interval_eval.specs.declared.columns.IntervalColumn.{IntervalColumn}
use Rattle.interval_eval.specs.Span.{mul_span}
use Rattle.interval_eval.specs.LaneSpans.{interval_in}
use Rattle.interval_eval.proofs.Integers.{all_between}
use Rattle.interval_eval.proofs.IntervalColumns.{corner_fails, hull_holds}
use Rattle.interval_eval.proofs.columns.IntervalColumn.mul_spans.Goals as goal

-- a product of ends in a lane
abbrev corner : (Interval → ℤ) → (Interval → ℤ) → IntervalColumn → IntervalColumn → ℕ → ℤ
corner f g a b k = f (interval_in a k) *ℤ g (interval_in b k)

abbrev wanted : IntervalColumn → IntervalColumn → ℕ → Interval
wanted a b k = mul_span (interval_in a k) (interval_in b k)

abbrev low : Interval → ℤ
low i = i.lo

abbrev high : Interval → ℤ
high i = i.hi

pub returns-in_err-first : goal.returns-in_err-first
returns-in_err-first c =
    let a : IntervalColumn = c.args.self.now in
    let b : IntervalColumn = c.args.other.now in
    rw c.from_residual.ensures (corner_fails (corner low low a b) (wanted a b) (λ k. (all_between (corner low low a b k) (corner low high a b k) (corner high low a b k) (corner high high a b k)).0) c.in_err-first.ensures)

pub returns-in_err-second : goal.returns-in_err-second
returns-in_err-second c =
    let a : IntervalColumn = c.args.self.now in
    let b : IntervalColumn = c.args.other.now in
    rw c.from_residual-in_err-second.ensures (corner_fails (corner low high a b) (wanted a b) (λ k. (all_between (corner low low a b k) (corner low high a b k) (corner high low a b k) (corner high high a b k)).1) c.in_err-second.ensures)

pub returns-in_err-third : goal.returns-in_err-third
returns-in_err-third c =
    let a : IntervalColumn = c.args.self.now in
    let b : IntervalColumn = c.args.other.now in
    rw c.from_residual-in_err-third.ensures (corner_fails (corner high low a b) (wanted a b) (λ k. (all_between (corner low low a b k) (corner low high a b k) (corner high low a b k) (corner high high a b k)).2) c.in_err-third.ensures)

pub returns-in_err-fourth : goal.returns-in_err-fourth
returns-in_err-fourth c =
    let a : IntervalColumn = c.args.self.now in
    let b : IntervalColumn = c.args.other.now in
    rw c.from_residual-in_err-fourth.ensures (corner_fails (corner high high a b) (wanted a b) (λ k. (all_between (corner low low a b k) (corner low high a b k) (corner high low a b k) (corner high high a b k)).3) c.in_err-fourth.ensures)

pub returns : goal.returns
returns c =
    let a : IntervalColumn = c.args.self.now in
    let b : IntervalColumn = c.args.other.now in
    hull_holds (record { lo = c.least-self.result; hi = c.greatest-self.result }) (corner low low a b) (corner low high a b) (corner high low a b) (corner high high a b)
    c.in_ok-first.first c.in_ok-second.second c.in_ok-third.third c.in_ok-fourth.fourth
    c.in_ok-first.ensures.1 c.in_ok-second.ensures.1 c.in_ok-third.ensures.1 c.in_ok-fourth.ensures.1
    c.least-self.ensures c.greatest-self.ensures
