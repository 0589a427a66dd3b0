use Rattle.std.proofs.Common.{ℕ, ap, sym, subst, rules, ◌∙◌, w64}
use Rattle.std.specs.Prelude.{pos, slice_index_or, FitsSigned}
use Rattle.std.proofs.lemmas.Int.{to_z-of_z}
use Rattle.fixed_expr.specs.NarrowValues.{IsNarrow}
use Rattle.interval_eval.specs.declared.interval.Interval.{Interval}
use Rattle.interval_eval.specs.Span.{abs_span}
use Rattle.interval_eval.specs.LaneSpans.{interval_in}
use Rattle.interval_eval.proofs.IntervalColumns.{one_span_lane_more, as_it_was}
use Rattle.interval_eval.proofs.columns.IntervalColumn.abs_spans.Goals as goal

pub lanes-preserved : goal.lanes-preserved
lanes-preserved c =
    let wanted : ℕ → Interval = λ k. abs_span (interval_in c.args.self.now k) in
    let same = ap abs_span (as_it_was c.args.self.now c.lanes.self wanted c.lanes.k c.lanes.invariant) in
    let low_fits : FitsSigned w64 (slice_index_or c.lanes.self.lo c.lanes.k (pos 0)) = search rules in
    let high_fits : FitsSigned w64 (slice_index_or c.lanes.self.hi c.lanes.k (pos 0)) = search rules in
    let low = simp to_z-of_z at c.in_ok-lo.ensures in
    let high = simp to_z-of_z at c.in_ok-self.ensures in
    one_span_lane_more c.args.self.now c.lanes.self wanted c.lanes.k c.in_ok-lo.lo c.in_ok-self.field-0 (search rules) c.lanes.invariant
    (subst IsNarrow (sym low.1) low.0) (low.1 ∙ ap (λ (i : Interval). i.lo) same) (subst IsNarrow (sym high.1) high.0) (high.1 ∙ ap (λ (i : Interval). i.hi) same)
