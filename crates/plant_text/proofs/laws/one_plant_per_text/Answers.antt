use Rattle.plant_text.proofs.lemmas.LinesLead.{one_plant}
use Rattle.plant_text.proofs.laws.one_plant_per_text.Goals as goal

pub returns : goal.returns
returns c = one_plant
