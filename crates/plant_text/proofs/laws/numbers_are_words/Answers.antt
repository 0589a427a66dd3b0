use Rattle.line_words.proofs.lemmas.NumberBytes.{number_word}
use Rattle.plant_text.proofs.laws.numbers_are_words.Goals as goal

pub returns : goal.returns
returns c = number_word
