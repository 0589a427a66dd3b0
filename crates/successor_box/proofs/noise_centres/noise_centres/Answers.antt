use Rattle.std.proofs.Common.{map, rules, arith}
use Rattle.std.specs.Prelude.{FitsSigned}
use Rattle.std.specs.Int.{w128}
use Rattle.std.proofs.lemmas.Int.{to_z-of_z}
use Rattle.std.proofs.lemmas.List.{length-map}
use Rattle.successor_box.specs.SuccessorBoxes.{noise_centre}
use Rattle.plant_record.proofs.lemmas.NextPoints.{point_more}
use Rattle.successor_box.proofs.noise_centres.noise_centres.Goals as goal

pub loop-k-preserved : goal.loop-k-preserved
loop-k-preserved c =
    let noises = c.args.p.now.noises in
    let limit = c.requires.plant.plant.noises_bound in
    let count = length-map noises noise_centre in
    let fits : FitsSigned w128 c.noise_centre.result = search rules in
    rw (to_z-of_z w128 c.noise_centre.result fits, c.loop-k.invariant)
    (point_more (map noise_centre noises) c.loop-k.k c.noise_centre.result (omega arith) (omega arith) c.noise_centre.ensures.centre)
