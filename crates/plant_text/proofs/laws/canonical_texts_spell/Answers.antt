use Rattle.plant_text.proofs.lemmas.SpelledCanonically as spelled
use Rattle.plant_text.proofs.laws.canonical_texts_spell.Goals as goal

pub returns : goal.returns
returns c = spelled.canonical_texts_spell
