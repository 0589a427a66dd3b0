-- Ranges of variables in many lanes at once, given by columns of their ends.
use Rattle.std.specs.Prelude.{◌≡◌, ℕ, ◌<◌, pos, List, map, slice_index_or, Option, MatchOption}
use Rattle.fixed_expr.specs.declared.lanes.TheConstants.{LANES}
use Rattle.fixed_expr.specs.Expression.{Expression, NumExpr, VarExpr, NegExpr, AddExpr, SubExpr, MulExpr, DivExpr, MinExpr, MaxExpr, AbsExpr, LutExpr}
use Rattle.fixed_expr.specs.NarrowValues.{IsNarrow}
use Rattle.interval_eval.specs.declared.interval.Interval.{Interval}
use Rattle.interval_eval.specs.declared.columns.IntervalColumn.{IntervalColumn}
use Rattle.interval_eval.specs.Span.{span_of}

-- the interval in lane k
abbrev pub interval_in : IntervalColumn → ℕ → Interval
interval_in column k = record { lo = slice_index_or column.lo k (pos 0); hi = slice_index_or column.hi k (pos 0) }

-- the ranges of the variables in lane k
abbrev pub area_in : List IntervalColumn → ℕ → List Interval
area_in columns k = map (λ (column : IntervalColumn). interval_in column k) columns

-- both ends lie in 64 bits
abbrev pub HasNarrowEnds : Interval → Type 0
HasNarrowEnds i = IsNarrow i.lo × IsNarrow i.hi

-- the ends of every node's span lie in 64 bits, and so does every divisor
abbrev pub SpanStaysNarrow : Expression → List Interval → Type 0
SpanStaysNarrow (NumExpr k) area = HasNarrowEnds (span_of (NumExpr k) area)
SpanStaysNarrow (VarExpr i) area = HasNarrowEnds (span_of (VarExpr i) area)
SpanStaysNarrow (NegExpr a) area = SpanStaysNarrow a area × HasNarrowEnds (span_of (NegExpr a) area)
SpanStaysNarrow (AddExpr a b) area = SpanStaysNarrow a area × SpanStaysNarrow b area × HasNarrowEnds (span_of (AddExpr a b) area)
SpanStaysNarrow (SubExpr a b) area = SpanStaysNarrow a area × SpanStaysNarrow b area × HasNarrowEnds (span_of (SubExpr a b) area)
SpanStaysNarrow (MulExpr a b) area = SpanStaysNarrow a area × SpanStaysNarrow b area × HasNarrowEnds (span_of (MulExpr a b) area)
SpanStaysNarrow (DivExpr a k) area = SpanStaysNarrow a area × IsNarrow k × HasNarrowEnds (span_of (DivExpr a k) area)
SpanStaysNarrow (MinExpr a b) area = SpanStaysNarrow a area × SpanStaysNarrow b area × HasNarrowEnds (span_of (MinExpr a b) area)
SpanStaysNarrow (MaxExpr a b) area = SpanStaysNarrow a area × SpanStaysNarrow b area × HasNarrowEnds (span_of (MaxExpr a b) area)
SpanStaysNarrow (AbsExpr a) area = SpanStaysNarrow a area × HasNarrowEnds (span_of (AbsExpr a) area)
SpanStaysNarrow (LutExpr a points) area = SpanStaysNarrow a area × HasNarrowEnds (span_of (LutExpr a points) area)

-- each of these intervals has both ends in 64 bits
abbrev pub AreNarrowIntervals : (ℕ → Interval) → Type 0
AreNarrowIntervals wanted = (k : ℕ) → k < LANES → HasNarrowEnds (wanted k)

-- the column holds each interval in its lane
abbrev pub IsIntervalColumnOf : IntervalColumn → (ℕ → Interval) → Type 0
IsIntervalColumnOf found wanted = (k : ℕ) → k < LANES → ((interval_in found k).lo ≡ (wanted k).lo) × ((interval_in found k).hi ≡ (wanted k).hi)

-- an answer is given exactly where all ends lie in 64 bits, and then the column holds the intervals
abbrev pub AnswersIntervals : {T : Type 0} → Option T → IntervalColumn → (ℕ → Interval) → Type 0
AnswersIntervals answer found wanted = MatchOption answer (¬ (AreNarrowIntervals wanted)) (λ _. AreNarrowIntervals wanted × IsIntervalColumnOf found wanted)

-- in each lane the spans of all nodes stay in 64 bits, and so does every divisor
abbrev pub SpanStaysNarrowInLanes : Expression → List IntervalColumn → Type 0
SpanStaysNarrowInLanes e columns = (k : ℕ) → k < LANES → SpanStaysNarrow e (area_in columns k)

-- an answer is given exactly where the spans of each lane stay in 64 bits, and then the column holds them
abbrev pub AnswersSpans : {T : Type 0} → Option T → Expression → List IntervalColumn → IntervalColumn → Type 0
AnswersSpans answer e columns found = MatchOption answer (¬ (SpanStaysNarrowInLanes e columns)) (λ _. SpanStaysNarrowInLanes e columns × IsIntervalColumnOf found (λ k. span_of e (area_in columns k)))
