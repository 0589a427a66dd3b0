use Rattle.std.proofs.Common.{ap, length, refl, rules}
use Rattle.std.specs.Prelude.{FitsSigned}
use Rattle.std.specs.Option.{option_map}
use Rattle.std.specs.Int.{w128}
use Rattle.std.proofs.lemmas.Int.{to_z-of_z}
use Rattle.std.proofs.lemmas.Option.{slice_get_read}
use Rattle.plant_record.specs.declared.variables.NoiseVariable.{NoiseVariable}
use Rattle.plant_record.proofs.plant.Plant.noise_range.Goals as goal

pub returns : goal.returns
returns c =
    let w = c.index-noise.result.now in
    let low : FitsSigned w128 w.low = search rules in
    let high : FitsSigned w128 w.high = search rules in
    rw (to_z-of_z w128 w.low low, to_z-of_z w128 w.high high, ← c.self.view_is)
    (ap (option_map (λ (w : NoiseVariable). (w.low, w.high))) (slice_get_read c.self.inside.parts.variables.noises.items (length c.self.inside.parts.variables.noises.items) c.args.k w refl (rw (← c.self.view_is) at c.requires) c.index-noise.ensures))
