use Rattle.std.proofs.Common.{◌∙◌}
use Rattle.std.specs.Prelude.{pos}
use Rattle.std.specs.Int.{w128}
use Rattle.std.proofs.lemmas.Int.{to_z-of_z}
use Rattle.fixed_expr.proofs.PointsPassed.{value_between}
use Rattle.fixed_expr.proofs.curve.value_at.Goals as goal

pub returns-else-passed-points-clause-value : goal.returns-else-passed-points-clause-value
returns-else-passed-points-clause-value c =
    let passed = rw (to_z-of_z w128 c.args.x c.ranges.x) at c.points_passed-passed.ensures in
    to_z-of_z w128 c.value_along.result (record { sfits = c.value_along.type_inv })
    ∙ (rw (to_z-of_z w128 c.args.x c.ranges.x) at c.value_along.ensures.value)
    ∙ value_between c.args.points.now c.args.x c.points_passed-passed.result (pos 0, pos 0) c.requires passed c.if-passed-eq0.false c.if-passed-points.false
