use Rattle.std.proofs.Common.{◌≡◌, ◌+◌, ◌-◌, ◌<◌, ◌≤◌, ◌∙◌, ℕ, List, take, drop, get_or, length, length-drop, ap, sym, arith}
use Rattle.std.proofs.lemmas.List.{get_or-take, get_or-drop, length-take-le}
use Rattle.plant_record.specs.ValueIndices.{value_index}
use Rattle.plant_record.proofs.lemmas.ValueIndices.{length-counts}
use Rattle.successor_box.proofs.InputNumbers.{index_below}
use Rattle.successor_box.proofs.cell_line.input_number.Goals as goal

-- an index after those of the states
after_states : (indices : List ℕ) (states count k : ℕ) → k < count → get_or (take count (drop states indices)) k 0 ≡ get_or indices (states + k) 0
after_states indices states count k lt = get_or-take count (drop states indices) k 0 lt ∙ get_or-drop states indices k 0

pub input_number-requires : goal.input_number-requires
input_number-requires c =
    let inputs = c.args.p.now.inputs in
    let indices = c.args.indices.now in
    let states = c.states.result in
    let plant = c.requires.plant.plant in
    let some = c.requires.indices in
    let enough : length inputs ≤ 9 - states = omega (arith, plant.states_bound, plant.inputs_bound, c.states.ensures) in
    record {
      long = omega (arith, enough, length-counts inputs, length-take-le (9 - states) (drop states indices) (omega (arith, length-drop states indices, c.told-indices)));
      below = λ k lt.
          let within : k < length inputs = omega (arith, lt, length-counts inputs) in
          let is : get_or (take (9 - states) (drop states indices)) k 0 ≡ value_index inputs k some.0 = after_states indices states (9 - states) k (omega (arith, within, enough)) ∙ ap (λ (n : ℕ). get_or indices (n + k) 0) c.states.ensures ∙ some.1.each k within in
          omega (arith, is, index_below inputs k some.0 within some.1.input);
    }

pub returns : goal.returns
returns c = record {
  input = c.input_number.ensures.below;
  each = λ k lt.
      let plant = c.requires.plant.plant in
      let within : k < 9 - c.states.result = omega (arith, plant.states_bound, plant.inputs_bound, c.states.ensures, lt) in
      ap (λ (n : ℕ). get_or c.args.indices.now (n + k) 0) (sym c.states.ensures) ∙ sym (after_states c.args.indices.now c.states.result (9 - c.states.result) k within) ∙ c.input_number.ensures.each k lt;
}
