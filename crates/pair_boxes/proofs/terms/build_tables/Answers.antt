use Rattle.std.proofs.Common.{◌≡◌, ℕ, ◌<◌, ◌∙◌, [], ◌∷◌, List, length, get_or, ap, arith}
use Rattle.std.proofs.lemmas.List.{length-append}
use Rattle.grid_quantiser.specs.declared.axis.Axis.{Axis}
use Rattle.grid_quantiser.specs.Axes.{no_axis}
use Rattle.plant_record.specs.Description.{axes_of}
use Rattle.plant_record.proofs.lemmas.SoundPlants.{sound as sound_plant}
use Rattle.successor_box.proofs.Middles.{axis_at}
use Rattle.pair_boxes.specs.declared.terms.StateTerms.{StateTerms}
use Rattle.pair_boxes.proofs.BoxSums.{stride_next}
use Rattle.pair_boxes.proofs.TermTables.{tables_more}
use Rattle.pair_boxes.proofs.terms.build_tables.Goals as goal

pub loop-state-preserved : goal.loop-state-preserved
loop-state-preserved g c =
    let p = c.args.sampled.now.plant.now in
    let so_far = c.loop-state.invariant in
    let state : ℕ = c.loop-state.state in
    let t : StateTerms = c.in_ok-build_state.field-0 in
    let plant = c.args.sampled.now.within.plant in
    let equation : state < length p.equations = omega (arith, c.loop-state-test.true, c.states-state-end.ensures, plant.one_each) in
    let count : c.count.result ≡ (get_or (axes_of p) state no_axis).count = c.count.ensures ∙ ap (λ (axes : List Axis). (get_or axes state no_axis).count) c.grid-in-loop-state.ensures in
    rw c.in_ok-push.ensures.items
    (record {
      count = omega (arith, length-append c.loop-state.tables.items (t ∷ []), so_far.count);
      stride = stride_next p c.args.sampled.now.within state equation c.loop-state.stride c.count.result so_far.stride count;
      each = tables_more p c.loop-state.tables.items state t so_far.count so_far.each c.in_ok-build_state.ensures;
    })

pub invariant_of-of : goal.invariant_of-of
invariant_of-of g c =
    let p = c.args.sampled.now.plant.now in
    let state : ℕ = c.loop-state.state in
    let plant = c.args.sampled.now.within.plant in
    let equation : state < length p.equations = omega (arith, c.loop-state-test.true, c.states-state-end.ensures, plant.one_each) in
    let count : c.count.result ≡ (get_or (axes_of p) state no_axis).count = c.count.ensures ∙ ap (λ (axes : List Axis). (get_or axes state no_axis).count) c.grid-in-loop-state.ensures in
    record { equation = equation; stride_is = stride_next p c.args.sampled.now.within state equation c.loop-state.stride c.count.result c.loop-state.invariant.stride count }

pub nonzero_div-stride : goal.nonzero_div-stride
nonzero_div-stride g c =
    let p = c.args.sampled.now.plant.now in
    let state : ℕ = c.loop-state.state in
    let plant = c.args.sampled.now.within.plant in
    let count : c.count.result ≡ (get_or (axes_of p) state no_axis).count = c.count.ensures ∙ ap (λ (axes : List Axis). (get_or axes state no_axis).count) c.grid-in-loop-state.ensures in
    omega (arith, count, (axis_at p (sound_plant p plant) state (omega (arith, c.loop-state-test.true, c.states-state-end.ensures))).some_cell)

pub returns : goal.returns
returns g c =
    let so_far = c.loop-state.invariant in
    let one_each = c.args.sampled.now.within.plant.one_each in
    record {
      one_each = omega (arith, so_far.count, c.loop-state.auto.state-end, c.loop-state-test.false, c.states-state-end.ensures, one_each);
      each = λ i d lt. so_far.each i d (omega (arith, lt, c.loop-state-test.false, c.states-state-end.ensures, one_each));
    }
