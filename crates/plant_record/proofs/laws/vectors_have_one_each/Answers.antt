use Rattle.plant_record.proofs.lemmas.VariableValues.{vector_length}
use Rattle.plant_record.proofs.laws.vectors_have_one_each.Goals as goal

pub returns : goal.returns
returns c = vector_length
