use Rattle.plant_record.proofs.lemmas.SoundPlants.{sound as sound_plant}
use Rattle.successor_box.proofs.CellOffsets.{cell_area_long}
use Rattle.successor_box.proofs.CellRanges.{cell_stays, equation_is, formed_at}
use Rattle.successor_box.proofs.sampled.Sampled.cell_span.Goals as goal

pub span-requires : goal.span-requires
span-requires c =
    let p = c.args.self.now.plant.now in
    rw (c.variables-count.ensures.count, c.cell_area.ensures)
    (formed_at p c.args.state c.equation.result.now _ (sound_plant p c.variables-count.ensures.limits.plant) c.requires.state c.equation.ensures (cell_area_long p c.args.c c.args.input))

pub unreachable-requires : goal.unreachable-requires
unreachable-requires c =
    let p = c.args.self.now.plant.now in
    let sound = sound_plant p c.variables-count.ensures.limits.plant in
    let is = equation_is p c.args.state c.equation.result.now c.equation.ensures in
    c.in-None.ensures.exact (rw (c.variables-count.ensures.count, c.cell_area.ensures, is) (cell_stays p c.args.c c.args.input sound c.requires.pair.0 c.args.self.now.fits c.requires.pair.1 c.args.state c.requires.state))
