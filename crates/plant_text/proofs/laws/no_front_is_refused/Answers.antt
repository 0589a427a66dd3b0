use Rattle.plant_text.proofs.lemmas.CanonicalFronts as fronts
use Rattle.plant_text.proofs.laws.no_front_is_refused.Goals as goal

pub returns : goal.returns
returns c = fronts.no_front_is_refused
