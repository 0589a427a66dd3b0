use Rattle.plant_text.proofs.lemmas.LinesLead as leading
use Rattle.plant_text.proofs.laws.no_plant_text_is_refused.Goals as goal

pub returns : goal.returns
returns c = leading.no_plant_text_is_refused
