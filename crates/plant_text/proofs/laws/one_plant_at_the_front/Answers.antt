use Rattle.plant_text.proofs.lemmas.CanonicalFronts as fronts
use Rattle.plant_text.proofs.laws.one_plant_at_the_front.Goals as goal

pub returns : goal.returns
returns c = fronts.one_plant_at_the_front
