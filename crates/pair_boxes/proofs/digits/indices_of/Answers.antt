use Rattle.std.proofs.Common.{◌≡◌, ◌≢◌, ◌+◌, ◌-◌, ◌<◌, ◌≤◌, ℕ, List, ◌∙◌, length, get_or, get_or-set_other, get_or-set_same, below_more, refl, ap, arith}
use Rattle.std.proofs.lemmas.List.{length-set, length-map}
use Rattle.grid_quantiser.specs.declared.axis.Axis.{Axis}
use Rattle.grid_quantiser.specs.Indices.{index_along}
use Rattle.plant_record.specs.Description.{axis_of}
use Rattle.successor_box.specs.PairExtents.{index_in}
use Rattle.successor_box.proofs.LineValues.{state_slot, among_slot}
use Rattle.pair_boxes.proofs.digits.indices_of.Goals as goal
use Rattle.pair_boxes.proofs.digits.indices_of.Goals.{then-k-states, else-k-states}
use Rattle.base.proofs.Products.{nothing_below}

pub loop-k-init : goal.loop-k-init
loop-k-init c = record { nine = refl; done = λ i none. nothing_below i none }

pub loop-k-preserved : goal.loop-k-preserved
loop-k-preserved c =
    let p = c.args.sampled.now.plant.now in
    let u : ℕ = c.args.input in
    let k : ℕ = c.loop-k.k in
    let so_far = c.loop-k.invariant in
    let v : ℕ = c.if-k-states.index in
    let known : k < length p.states + length p.inputs = omega (arith, c.loop-k-test.true, c.states-states.ensures, c.input_variables.ensures) in
    let is : v ≡ index_in p c.args.c u k =
    elim c.if-k-states.branch [
      | then-k-states w ↦
          let state : k < length p.states = omega (arith, w.if-k-states.true, c.states-states.ensures) in
          w.index-is ∙ c.indices-along.ensures.along k (omega (arith, state, ap length c.grid.ensures, length-map p.states axis_of)) ∙ ap (λ (axes : List Axis). index_along axes k c.args.c) c.grid.ensures ∙ state_slot p c.args.c u k state
      | else-k-states w ↦
          let past : length p.states ≤ k = omega (arith, w.if-k-states.false, c.states-states.ensures) in
          w.index-is ∙ ap (λ (n : ℕ). get_or c.input_indices-among.result (k - n) 0) c.states-states.ensures ∙ c.input_indices-among.ensures.each (k - length p.states) (omega (arith, known, past)) ∙ among_slot p c.args.c u k past
    ]
    in
    record {
      nine = length-set c.loop-k.indices k v ∙ so_far.nine;
      done = below_more _ _
          (λ i before. let other : i ≢ k = omega (arith, before) in get_or-set_other c.loop-k.indices k i v 0 other ∙ so_far.done i before)
          (get_or-set_same c.loop-k.indices k v 0 (omega arith) ∙ is);
    }
