use Rattle.std.proofs.Common.{ap, rules}
use Rattle.std.specs.Prelude.{ℤ, ◌+ℤ◌, ◌-ℤ◌, FitsSigned}
use Rattle.std.specs.Int.{w128}
use Rattle.std.proofs.lemmas.Int.{to_z-of_z}
use Rattle.plant_record.proofs.lemmas.SoundPlants.{sound as sound_plant}
use Rattle.successor_box.proofs.DeviationLanes.{lane_count}
use Rattle.successor_box.proofs.ExtentEnds.{AreExtentEnds, end_step}
use Rattle.successor_box.proofs.sampled.Sampled.growth.Goals as goal
use Rattle.successor_box.proofs.sampled.Sampled.growth.Goals.{After-of-deviation}

pub of-deviation-requires-clause-input : goal.of-deviation-requires-clause-input
of-deviation-requires-clause-input c = rw c.args.self.now.deviations (rw (lane_count c.args.self.now.plant.now c.args.state c.requires.state) c.requires.next.1.1)

-- the ends fit
ends : (c : After-of-deviation) → AreExtentEnds c.args.self.now.plant.now c.args.input c.args.state c.args.next c.of-deviation.result
ends c =
    let p = c.args.self.now.plant.now in
    let some = c.requires.next in
    end_step p (sound_plant p c.args.self.now.within.plant) c.args.self.now.fits some.0 c.args.input c.args.state some.1.0 some.1.1 c.requires.state
    c.args.next c.args.self.now.slopes.now c.of-deviation.result some.2 c.args.self.now.deviations c.of-deviation.ensures

pub overflow_sub-result : goal.overflow_sub-result
overflow_sub-result c =
    let next : FitsSigned w128 c.args.next = search rules in
    let deviation : FitsSigned w128 c.of-deviation.result = search rules in
    rw (to_z-of_z w128 _ next, to_z-of_z w128 _ deviation) (ends (goal.at.overflow_sub-result c).After-of-deviation).low_fits

pub overflow_add-result : goal.overflow_add-result
overflow_add-result c =
    let next : FitsSigned w128 c.args.next = search rules in
    let deviation : FitsSigned w128 c.of-deviation.result = search rules in
    rw (to_z-of_z w128 _ next, to_z-of_z w128 _ deviation) (ends (goal.at.overflow_add-result c).After-of-deviation).high_fits

pub returns-clause-low : goal.returns-clause-low
returns-clause-low c =
    let e = ends (goal.at.returns-clause-low c).After-of-deviation in
    let next : FitsSigned w128 c.args.next = search rules in
    let deviation : FitsSigned w128 c.of-deviation.result = search rules in
    rw (to_z-of_z w128 _ next, to_z-of_z w128 _ deviation, to_z-of_z w128 _ e.low_fits) (ap (λ (y : ℤ). c.args.next -ℤ y) e.moves_by)

pub returns-clause-high : goal.returns-clause-high
returns-clause-high c =
    let e = ends (goal.at.returns-clause-high c).After-of-deviation in
    let next : FitsSigned w128 c.args.next = search rules in
    let deviation : FitsSigned w128 c.of-deviation.result = search rules in
    rw (to_z-of_z w128 _ next, to_z-of_z w128 _ deviation, to_z-of_z w128 _ e.high_fits) (ap (λ (y : ℤ). c.args.next +ℤ y) e.moves_by)
