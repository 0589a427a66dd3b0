use Rattle.plant_record.proofs.lemmas.SoundPlants.{sound as sound_plant}
use Rattle.successor_box.proofs.CellRanges.{formed_at}
use Rattle.successor_box.proofs.sampled.Sampled.growth_extents.Goals as goal

pub eval_beside-requires-clause-formed : goal.eval_beside-requires-clause-formed
eval_beside-requires-clause-formed c =
    let p = c.args.self.now.plant.now in
    formed_at p c.args.state c.equation-equation.result.now _ (sound_plant p c.args.self.now.within.plant) c.requires.state c.equation-equation.ensures c.requires.values.1.long
