use Rattle.std.proofs.Common.{◌≡◌, ◌∙◌, sym, ap}
use Rattle.std.specs.Prelude.{pos}
use Rattle.std.proofs.lemmas.Option.{get_or_from_slice_get}
use Rattle.fixed_expr.specs.Expression.{Expression, NumExpr, expression_of}
use Rattle.fixed_expr.specs.Shifts.{shifts_with}
use Rattle.plant_record.specs.Steps.{equation_at}
use Rattle.plant_record.proofs.lemmas.SoundPlants.{sound as sound_plant}
use Rattle.successor_box.specs.PairExtents.{shifts_along}
use Rattle.pair_boxes.specs.declared.extent_table.ExtentTable.{ExtentTable}
use Rattle.pair_boxes.proofs.ExtentTables.{table_of}
use Rattle.pair_boxes.proofs.extent_table.build_table.Goals as goal

pub returns : goal.returns
returns g c =
    let p = c.args.of.now.sampled.plant.now in
    let within = c.args.of.now.sampled.within in
    let digits = c.args.digits in
    let table : ExtentTable = record { digits = digits.each; inputs = c.in_ok-inputs.inputs; extents = c.in_ok-extents.extents; shifts = c.shifts_with.result } in
    let equation-is : equation_at p c.args.of.now.state ≡ expression_of c.equation.result.now = get_or_from_slice_get p.equations c.args.of.now.state (expression_of c.equation.result.now) (NumExpr (pos 0)) c.equation.ensures in
    let shifts : c.shifts_with.result ≡ shifts_along p c.args.of.now.state = c.shifts_with.ensures ∙ ap (λ (e : Expression). shifts_with e c.args.of.now.state) (sym equation-is) in
    table_of p within.plant (sound_plant p within.plant) within.pairs c.args.of.now.state table digits.slots c.requires
    c.in_ok-inputs.ensures.long c.in_ok-inputs.ensures.each shifts c.in_ok-extents.ensures.long c.in_ok-extents.ensures.each
