use Rattle.std.proofs.Common.{ℕ, ap, sym, subst, rules, ◌∙◌}
use Rattle.std.specs.Int.{w128}
use Rattle.std.specs.Prelude.{FitsSigned}
use Rattle.std.proofs.lemmas.Int.{to_z-of_z}
use Rattle.fixed_expr.specs.NarrowValues.{IsNarrow}
use Rattle.interval_eval.specs.declared.interval.Interval.{Interval}
use Rattle.interval_eval.specs.Span.{lut_span}
use Rattle.interval_eval.specs.LaneSpans.{interval_in}
use Rattle.interval_eval.proofs.IntervalColumns.{one_span_lane_more, as_it_was}
use Rattle.interval_eval.proofs.columns.IntervalColumn.lut_spans.Goals as goal

pub lanes-preserved : goal.lanes-preserved
lanes-preserved c =
    let wanted : ℕ → Interval = λ k. lut_span c.args.curve.now (interval_in c.args.self.now k) in
    let same = c.looked_up-values.ensures ∙ ap (lut_span c.args.curve.now) (c.interval_at.ensures ∙ as_it_was c.args.self.now c.lanes.self wanted c.lanes.k c.lanes.invariant) in
    let low_fits : FitsSigned w128 c.looked_up-values.result.lo = search rules in
    let high_fits : FitsSigned w128 c.looked_up-values.result.hi = search rules in
    let low = simp to_z-of_z at c.in_ok-self.ensures in
    let high = simp to_z-of_z at c.in_ok-self-2.ensures in
    one_span_lane_more c.args.self.now c.lanes.self wanted c.lanes.k c.in_ok-self.field-0 c.in_ok-self-2.field-0 (search rules) c.lanes.invariant
    (subst IsNarrow (sym low.1) low.0) (low.1 ∙ ap (λ (i : Interval). i.lo) same) (subst IsNarrow (sym high.1) high.0) (high.1 ∙ ap (λ (i : Interval). i.hi) same)
