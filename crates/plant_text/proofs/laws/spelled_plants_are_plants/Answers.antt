use Rattle.plant_text.proofs.lemmas.LinesLead.{spelled_is_plant}
use Rattle.plant_text.proofs.laws.spelled_plants_are_plants.Goals as goal

pub returns : goal.returns
returns c = spelled_is_plant
