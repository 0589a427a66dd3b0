use Rattle.std.proofs.Common.{sym, arith}
use Rattle.mixed_radix.proofs.Numbers.{digit_is}
use Rattle.plant_record.specs.Description.{value_counts}
use Rattle.plant_record.proofs.lemmas.ValueIndices.{length-counts}
use Rattle.plant_record.proofs.plant.Plant.input_number.Goals as goal

pub returns-clause-each : goal.returns-clause-each
returns-clause-each c = λ j lt.
    let inputs = c.args.self.now.inputs in
    let number = rw c.value_counts.ensures.same at c.encode.ensures.number in
    sym (digit_is (value_counts inputs) c.args.indices.now c.encode.result j (record { are = c.requires; number_is = sym number }) (omega (arith, lt, length-counts inputs)))
