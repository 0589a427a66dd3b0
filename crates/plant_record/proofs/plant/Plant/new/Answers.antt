use Rattle.std.proofs.Common.{◌≡◌, ap, length, take, arith}
use Rattle.mixed_radix.specs.Radix.{size}
use Rattle.plant_record.specs.Description.{value_counts}
use Rattle.plant_record.proofs.lemmas.InputVectors.{few_vectors, some_vectors}
use Rattle.plant_record.proofs.plant.Plant.new.Goals as goal

pub size-vectors-requires-clause-some : goal.size-vectors-requires-clause-some
size-vectors-requires-clause-some c =
    let inputs = c.args.parts.variables.inputs.items in
    let len : c.len.result ≡ length inputs = omega (arith, c.args.parts.variables.inputs.ok.0) in
    let counts : take c.len.result c.value_counts-counts.result ≡ value_counts inputs = rw len (rw c.deref.ensures.value at c.value_counts-counts.ensures) in
    omega (arith, ap size counts, some_vectors inputs c.requires.inputs)

pub size-vectors-requires-clause-fits : goal.size-vectors-requires-clause-fits
size-vectors-requires-clause-fits c =
    let inputs = c.args.parts.variables.inputs.items in
    let len : c.len.result ≡ length inputs = omega (arith, c.args.parts.variables.inputs.ok.0) in
    let counts : take c.len.result c.value_counts-counts.result ≡ value_counts inputs = rw len (rw c.deref.ensures.value at c.value_counts-counts.ensures) in
    omega (arith, ap size counts, few_vectors inputs c.requires.inputs_bound c.requires.inputs)
