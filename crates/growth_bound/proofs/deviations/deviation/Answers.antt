use Rattle.std.proofs.Common.{ap, rules}
use Rattle.std.specs.Prelude.{ℤ, FitsSigned}
use Rattle.std.specs.Int.{w128}
use Rattle.std.proofs.lemmas.Int.{to_z-of_z}
use Rattle.fixed_expr.specs.Expression.{expression_of}
use Rattle.interval_eval.specs.declared.interval.Interval.{Interval}
use Rattle.growth_bound.proofs.Moves.{deviation_bounds}
use Rattle.growth_bound.proofs.deviations.deviation.Goals as goal

pub returns : goal.returns
returns c =
    let d : ℤ = c.in_ok-span_and_deviation.field-0.1 in
    let fits : FitsSigned w128 d = search rules in
    let is = ap (λ (q : Interval × ℤ). q.1) c.in_ok-span_and_deviation.ensures.1 in
    rw (to_z-of_z w128 d fits)
    (record {
      exact = (c.in_ok-span_and_deviation.ensures.0, is);
      bounds = deviation_bounds (expression_of c.args.e.now) c.args.area.now c.args.radii.now d c.requires.well_formed is;
    })
