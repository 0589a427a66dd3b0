use Rattle.plant_record.proofs.lemmas.SoundPlants.{sound}
use Rattle.plant_record.proofs.laws.plants_are_sound.Goals as goal

pub returns : goal.returns
returns c = sound
