use Rattle.std.proofs.Common.{◌∙◌, rules}
use Rattle.std.specs.Prelude.{FitsSigned}
use Rattle.std.specs.Int.{w128}
use Rattle.std.proofs.lemmas.Int.{to_z-of_z}
use Rattle.fixed_expr.specs.Expression.{expression_of}
use Rattle.plant_record.proofs.lemmas.NextPoints.{taken_more, taken_all}
use Rattle.plant_record.proofs.transition.next_point.Goals as goal

pub loop-i-preserved : goal.loop-i-preserved
loop-i-preserved c =
    let fits : FitsSigned w128 c.in_ok-next.field-0 = search rules in
    taken_more expression_of c.args.values.now c.args.equations.now c.loop-i.next c.loop-i.i c.index-equations-i.result _ c.requires.few c.loop-i-test.true c.index-equations-i.is
    c.in_ok-next.ensures.0 (to_z-of_z w128 c.in_ok-next.field-0 fits ∙ c.in_ok-next.ensures.1) c.loop-i.invariant

pub returns : goal.returns
returns c = taken_all expression_of c.args.values.now c.args.equations.now c.loop-i.next c.loop-i.i c.loop-i-test.false c.loop-i.invariant
