use Rattle.std.specs.Prelude.{pos}
use Rattle.fixed_expr.specs.Expression.{NumExpr}
use Rattle.plant_record.proofs.lemmas.SoundPlants.{sound as sound_plant}
use Rattle.successor_box.proofs.CellRanges.{equation_is}
use Rattle.successor_box.proofs.Steps.{formed_over}
use Rattle.successor_box.proofs.slopes.deviation_at.Goals as goal

pub deviation_over-requires-clause-well_formed : goal.deviation_over-requires-clause-well_formed
deviation_over-requires-clause-well_formed c =
    let p = c.args.p.now in
    let sound = sound_plant p c.variables-count.ensures.limits.plant in
    let is = equation_is p c.args.equation c.equation.result.now c.equation.ensures in
    rw (c.variables-count.ensures.count, c.domain_area.ensures, is) (formed_over p c.args.input sound c.args.equation (NumExpr (pos 0)) c.requires.equation)
