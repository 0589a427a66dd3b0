use Rattle.std.proofs.Common.{◌<◌, ◌∙◌, arith}
use Rattle.std.proofs.lemmas.List.{length-take-le}
use Rattle.plant_record.proofs.lemmas.SoundPlants.{sound as sound_plant}
use Rattle.successor_box.proofs.CellRanges.{cell_stays, equation_is, formed_at, area_lane_is}
use Rattle.successor_box.proofs.sampled.Sampled.spans.Goals as goal

pub spans_in_lanes-requires-clause-formed : goal.spans_in_lanes-requires-clause-formed
spans_in_lanes-requires-clause-formed c =
    let p = c.args.self.now.plant.now in
    formed_at p c.args.state c.equation.result.now _ (sound_plant p c.variables.ensures.limits.plant) c.requires.state c.equation.ensures (length-take-le c.variables.result c.cell_columns-area.result (omega arith) ∙ c.variables.ensures.count)

pub spans_in_lanes-requires-clause-fits : goal.spans_in_lanes-requires-clause-fits
spans_in_lanes-requires-clause-fits c = λ lane lt.
    let p = c.args.self.now.plant.now in
    let some = c.requires.values in
    let below : lane < 32 = omega (arith, lt, c.requires.few) in
    rw (equation_is p c.args.state c.equation.result.now c.equation.ensures, area_lane_is p (some.0 lane) c.args.input c.cell_columns-area.result c.variables.result lane c.variables.ensures.count (omega arith) (λ k within. c.cell_columns-area.ensures k within some.0 c.args.input some.1 lane below))
    (cell_stays p (some.0 lane) c.args.input (sound_plant p c.variables.ensures.limits.plant) (some.1.cells lane below) c.args.self.now.fits c.requires.input c.args.state c.requires.state)
