use Rattle.std.proofs.Common.{arith}
use Rattle.plant_record.proofs.lemmas.ValueIndices.{length-counts}
use Rattle.plant_record.proofs.plant.Plant.input_value.Goals as goal

pub value_at-requires-clause-index : goal.value_at-requires-clause-index
value_at-requires-clause-index c =
    omega (arith, c.input_indices-indices.ensures.digits.are.below c.args.variable (omega (arith, c.requires.variable, length-counts c.args.self.now.inputs)))
