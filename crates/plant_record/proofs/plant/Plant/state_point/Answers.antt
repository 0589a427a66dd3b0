use Rattle.std.proofs.Common.{◌<◌, get_or, pos, arith, rules}
use Rattle.std.specs.Prelude.{FitsSigned}
use Rattle.std.specs.Int.{w128}
use Rattle.std.proofs.lemmas.Int.{to_z-of_z}
use Rattle.plant_record.proofs.lemmas.NextPoints.{point_more}
use Rattle.plant_record.proofs.plant.Plant.state_point.Goals as goal

pub bounds-x-i : goal.bounds-x-i
bounds-x-i c = omega (arith, c.self.invariant.limits.plant.states_bound)

pub bounds-at-i : goal.bounds-at-i
bounds-at-i c = omega (arith, c.self.invariant.limits.plant.states_bound)

pub loop-i-preserved : goal.loop-i-preserved
loop-i-preserved c =
    let fits : FitsSigned w128 (get_or c.args.x.now c.loop-i.i (pos 0)) = search rules in
    let lt : c.loop-i.i < 6 = omega (arith, c.loop-i-test.true, c.len-i-end.ensures, c.self.invariant.limits.plant.states_bound) in
    rw (c.loop-i.invariant) (point_more c.args.x.now c.loop-i.i _ (omega (arith, c.told-x, lt)) (omega (arith, c.told-x)) (to_z-of_z w128 _ fits))
