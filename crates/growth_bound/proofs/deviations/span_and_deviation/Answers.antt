use Rattle.std.proofs.Common.{◌≡◌, ◌<◌, ◌^◌, ◌∙◌, List, ap, ap₂, pos, arith}
use Rattle.std.specs.Prelude.{ℤ}
use Rattle.std.specs.Int.{w128}
use Rattle.std.proofs.lemmas.Int.{to_z_pos}
use Rattle.fixed_expr.specs.Expression.{Expression, expression_of}
use Rattle.interval_eval.specs.declared.interval.Interval.{Interval}
use Rattle.growth_bound.specs.Deviation.{deviation_of, DeviationFits, DeviationStaysInRange}
use Rattle.growth_bound.specs.inside.Bounds.{bounds_of}
use Rattle.growth_bound.specs.declared.bounds.Bounds.{Bounds}
use Rattle.fixed_expr.proofs.EachNode.{of_whole}
use Rattle.growth_bound.proofs.deviations.span_and_deviation.Goals as goal

fits : (e : Expression) (area : List Interval) (radii : List ℤ) (b : Bounds) → DeviationStaysInRange e area radii → b ≡ bounds_of e area radii → b.deviation < 2 ^ 127
fits e area radii b stays is =
    let whole : deviation_of e area radii < 2 ^ 127 = of_whole DeviationFits (area, radii) e stays in
    let same : b.deviation ≡ deviation_of e area radii = ap (λ (f : Bounds). f.deviation) is in
    omega (arith, same, whole)

pub overflow_cast-result : goal.overflow_cast-result
overflow_cast-result c = record { sfits = fits (expression_of c.args.e.now) c.args.area.now c.args.radii.now c.in_ok-found.found c.in_ok-found.ensures.0.1 c.in_ok-found.ensures.1 }

pub returns : goal.returns
returns c =
    let small = fits (expression_of c.args.e.now) c.args.area.now c.args.radii.now c.in_ok-found.found c.in_ok-found.ensures.0.1 c.in_ok-found.ensures.1 in
    (c.in_ok-found.ensures.0, ap₂ (λ (span : Interval) (d : ℤ). (span, d)) (ap (λ (b : Bounds). b.span) c.in_ok-found.ensures.1) (to_z_pos w128 c.in_ok-found.found.deviation small ∙ ap (λ (b : Bounds). pos b.deviation) c.in_ok-found.ensures.1))
