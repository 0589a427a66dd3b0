use Rattle.plant_writing.specs.CanonicalText.{text_of}
use Rattle.plant_text.proofs.lemmas.LinesLead as leading
use Rattle.plant_text.proofs.lemmas.SpelledCanonically as spelled
use Rattle.plant_text.proofs.laws.canonical_texts_read_back.Goals as goal

pub returns : goal.returns
returns c = λ p within short.
    let spells = spelled.canonical_texts_spell p within.plant in
    ((λ q other. leading.one_plant (text_of p) q p other spells), (λ f refused. leading.no_plant_text_is_refused (text_of p) p f spells short within refused))
