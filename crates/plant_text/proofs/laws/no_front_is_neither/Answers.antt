use Rattle.plant_text.proofs.lemmas.PlantEnds as ends
use Rattle.plant_text.proofs.laws.no_front_is_neither.Goals as goal

pub returns : goal.returns
returns c = ends.no_front_is_neither
