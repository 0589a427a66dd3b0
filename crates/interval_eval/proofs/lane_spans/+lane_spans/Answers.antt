use Rattle.std.proofs.Common.{◌≡◌, sym, ap, ◌∙◌, subst}
use Rattle.fixed_expr.specs.Expression.{Expression, LutExpr, expression_of}
use Rattle.interval_eval.specs.LaneSpans.{AnswersSpans}
use Rattle.interval_eval.proofs.AreaColumns.{combined_spans, lookup_in_lanes}
use Rattle.interval_eval.proofs.lane_spans.+lane_spans.Goals as goal

pub span_lanes-returns-in_ok-span_lanes-in-Lut : goal.span_lanes-returns-in_ok-span_lanes-in-Lut
span_lanes-returns-in_ok-span_lanes-in-Lut t c =
    let e : expression_of c.args.e.now ≡ LutExpr (expression_of c.deref-in-Lut.result.now) c.in-Lut.curve =
    ap expression_of c.in-Lut.is ∙ ap (λ x. LutExpr (expression_of x) c.in-Lut.curve) (sym c.deref-in-Lut.ensures) in
    subst (λ (x : Expression). AnswersSpans c.lut_spans.result x c.args.columns.now c.lut_spans.new.self) (sym e)
    (lookup_in_lanes c.lut_spans.result c.in-Lut.curve (expression_of c.deref-in-Lut.result.now) c.args.columns.now c.span_lanes-in-Lut.new.found c.lut_spans.new.self c.in_ok-span_lanes-in-Lut.ensures.0 c.in_ok-span_lanes-in-Lut.ensures.1 c.lut_spans.ensures)

pub span_combined-returns : goal.span_combined-returns
span_combined-returns t c =
    combined_spans c.combine.result c.args.binary (expression_of c.args.a.now) (expression_of c.args.b.now) c.args.columns.now c.span_lanes.new.found c.span_lanes-2.new.found c.combine.new.self c.in_ok-span_lanes.ensures c.in_ok-span_lanes-2.ensures c.combine.ensures
