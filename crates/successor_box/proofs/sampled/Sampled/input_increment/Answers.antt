use Rattle.std.proofs.Common.{arith}
use Rattle.plant_record.specs.Description.{axes_of}
use Rattle.plant_record.proofs.lemmas.InputVectors.{some_vectors}
use Rattle.plant_record.proofs.lemmas.SoundPlants.{sound as sound_plant}
use Rattle.grid_quantiser.proofs.Suffixes.{some_cells}
use Rattle.successor_box.proofs.sampled.Sampled.input_increment.Goals as goal

pub next_along-first-requires-clause-pair : goal.next_along-first-requires-clause-pair
next_along-first-requires-clause-pair c =
    let p = c.args.self.now.plant.now in
    let plant = c.args.self.now.within.plant in
    (some_cells (axes_of p) (sound_plant p plant).axes.each, omega (arith, some_vectors p.inputs plant.inputs))

pub next_along-value-requires-clause-pair : goal.next_along-value-requires-clause-pair
next_along-value-requires-clause-pair c =
    let p = c.args.self.now.plant.now in
    (some_cells (axes_of p) (sound_plant p c.args.self.now.within.plant).axes.each, c.requires.input)
