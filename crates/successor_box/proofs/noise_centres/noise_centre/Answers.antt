use Rattle.std.proofs.Common.{◌∙◌, rules}
use Rattle.std.specs.Prelude.{FitsSigned}
use Rattle.std.specs.Int.{w128}
use Rattle.std.proofs.lemmas.Int.{to_z-of_z}
use Rattle.successor_box.proofs.Ranges.{noise_at}
use Rattle.successor_box.proofs.noise_centres.noise_centre.Goals as goal

pub returns-clause-centre : goal.returns-clause-centre
returns-clause-centre c =
    let r = noise_at c.args.p.now.noises c.args.k c.noise_range-low.result c.requires.plant.plant.noises c.noise_range-low.ensures in
    let low : FitsSigned w128 c.noise_range-low.result.0 = search rules in
    let high : FitsSigned w128 c.noise_range-low.result.1 = search rules in
    let fits : FitsSigned w128 c.halfway.result = search rules in
    to_z-of_z w128 _ fits ∙ (rw (to_z-of_z w128 _ low, to_z-of_z w128 _ high) at c.halfway.ensures) ∙ r.centre

pub returns-clause-short : goal.returns-clause-short
returns-clause-short c =
    let r = noise_at c.args.p.now.noises c.args.k c.noise_range-low.result c.requires.plant.plant.noises c.noise_range-low.ensures in
    rw (returns-clause-centre c, ← r.centre) r.short
