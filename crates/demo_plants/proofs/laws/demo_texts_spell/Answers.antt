use Rattle.demo_plants.proofs.Texts.{texts_spell}
use Rattle.demo_plants.proofs.laws.demo_texts_spell.Goals as goal

pub returns : goal.returns
returns c = texts_spell
