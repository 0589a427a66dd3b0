use Rattle.std.proofs.Common.{◌≡◌, ap, length, take, arith}
use Rattle.mixed_radix.specs.Radix.{size}
use Rattle.plant_record.specs.Description.{value_counts}
use Rattle.plant_record.proofs.lemmas.InputVectors.{some_vectors}
use Rattle.plant_record.proofs.plant.Plant.value_counts.Goals as goal

pub returns-clause-some : goal.returns-clause-some
returns-clause-some c =
    let inputs = c.self.inside.parts.variables.inputs.items in
    let len : c.len.result ≡ length inputs = omega (arith, c.self.inside.parts.variables.inputs.ok.0) in
    let counts : take c.len.result c.self.inside.counts ≡ value_counts inputs = rw len c.self.invariant.counts_are in
    omega (arith, ap size counts, some_vectors inputs c.self.invariant.limits.plant.inputs)
