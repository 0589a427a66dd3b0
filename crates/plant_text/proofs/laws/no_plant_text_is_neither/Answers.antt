use Rattle.plant_text.proofs.lemmas.PlantEnds as ends
use Rattle.plant_text.proofs.laws.no_plant_text_is_neither.Goals as goal

pub returns : goal.returns
returns c = ends.no_plant_text_is_neither
