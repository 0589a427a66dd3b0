use Rattle.plant_record.proofs.lemmas.ValueIndices.{inputs_rest}
use Rattle.plant_record.proofs.laws.inputs_depend_on_their_indices.Goals as goal

pub returns : goal.returns
returns c = inputs_rest
