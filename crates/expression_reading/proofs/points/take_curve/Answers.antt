use Rattle.expression_reading.proofs.lemmas.CurvePoints.{few_points}
use Rattle.expression_reading.proofs.points.take_curve.Goals as goal

pub curve_through-requires : goal.curve_through-requires
curve_through-requires c =
    let few = few_points c.args.tokens.now (c.in_ok-points.points.items, c.in_ok-points.rest.now) (rw c.new.ensures.items at c.in_ok-points.ensures.points) in
    rw c.deref.ensures.value (record { few = few; short = c.in_ok-points.ensures.short })
