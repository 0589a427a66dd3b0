use Rattle.std.proofs.Common.{◌<◌, ◌≢◌, length, get_or-set_other, get_or-set_same, below_more, arith}
use Rattle.std.proofs.lemmas.List.{length-set}
use Rattle.plant_record.proofs.lemmas.SoundPlants.{sound as sound_plant}
use Rattle.successor_box.specs.SuccessorBoxes.{low_corner, high_corner}
use Rattle.successor_box.proofs.DeviationLanes.{equations_count}
use Rattle.successor_box.proofs.PairExtents.{extents_of_box}
use Rattle.successor_box.proofs.one_pair.successors.Goals as goal

pub loop-state-preserved : goal.loop-state-preserved
loop-state-preserved c =
    let so_far = c.loop-state.invariant in
    let each = equations_count _ _ c.equations-state-end.ensures.same in
    let plant = c.equations-state-end.ensures.limits.plant in
    let here : c.loop-state.state < length c.loop-state.extents = omega (arith, so_far.six, each, plant.one_each, plant.states_bound) in
    record {
      six = omega (arith, length-set c.loop-state.extents c.loop-state.state c.extent.result);
      each = below_more _ _
          (λ i before. let other : i ≢ c.loop-state.state = omega arith in rw get_or-set_other (so_far.each i before))
          (rw get_or-set_same (rw c.new-sampled.ensures.plant at c.extent.ensures));
    }

pub box_with-requires : goal.box_with-requires
box_with-requires c =
    let p = c.args.p.now in
    let ends = c.equations-state-end.ensures in
    let whole = extents_of_box p c.args.c c.args.input c.loop-state.extents (sound_plant p ends.limits.plant) (λ i lt. c.loop-state.invariant.each i (omega (arith, lt, equations_count _ _ ends.same))) in
    rw c.grid.ensures (low_corner p c.args.c c.args.input, high_corner p c.args.c c.args.input, whole)

pub returns : goal.returns
returns c =
    let p = c.args.p.now in
    let ends = c.equations-state-end.ensures in
    let whole = extents_of_box p c.args.c c.args.input c.loop-state.extents (sound_plant p ends.limits.plant) (λ i lt. c.loop-state.invariant.each i (omega (arith, lt, equations_count _ _ ends.same))) in
    record {
      inside = (rw c.grid.ensures at c.box_with.ensures.inside) (low_corner p c.args.c c.args.input) (high_corner p c.args.c c.args.input) whole;
      corners = (rw c.grid.ensures at c.box_with.ensures.corners) (low_corner p c.args.c c.args.input) (high_corner p c.args.c c.args.input) whole;
    }
