use Rattle.plant_text.proofs.lemmas.LinesLead as leading
use Rattle.plant_text.proofs.laws.one_refusal.Goals as goal

pub returns : goal.returns
returns c = leading.one_refusal
