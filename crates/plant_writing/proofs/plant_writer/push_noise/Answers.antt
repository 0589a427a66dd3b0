use Rattle.std.proofs.Common.{rules}
use Rattle.std.specs.Prelude.{FitsSigned}
use Rattle.std.specs.Int.{w128}
use Rattle.std.proofs.lemmas.Int.{to_z-of_z}
use Rattle.plant_writing.proofs.lemmas.WrittenLines.{appended, noise_parts}
use Rattle.plant_writing.proofs.plant_writer.push_noise.Goals as goal

pub returns : goal.returns
returns c =
    let low : FitsSigned w128 c.args.noise.now.low = search rules in
    let high : FitsSigned w128 c.args.noise.now.high = search rules in
    appended c.extend_from_slice-3.result _ _ _
    (rw (c.in_ok-push_spaced-2.ensures, c.in_ok-push_spaced.ensures, c.in_ok-extend_from_slice-2.ensures.items, c.as_bytes.ensures, c.in_ok-extend_from_slice.ensures.items, to_z-of_z w128 c.args.noise.now.low low, to_z-of_z w128 c.args.noise.now.high high, noise_parts c.args.text.now.items c.args.noise.now)
    at c.extend_from_slice-3.ensures.items)
