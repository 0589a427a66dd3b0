use Rattle.std.proofs.Common.{◌≡◌, ◌≢◌, ◌<◌, ℕ, length, get_or, set, sym, ◌∙◌, w64, arith, rules, below_more, get_or-set_same, get_or-set_other}
use Rattle.std.specs.Prelude.{ℤ, pos, FitsSigned}
use Rattle.std.specs.Int.{w128}
use Rattle.std.proofs.lemmas.Int.{to_z-of_z}
use Rattle.std.proofs.lemmas.List.{ext_get_or}
use Rattle.plant_record.specs.Description.{vector_of}
use Rattle.plant_record.proofs.lemmas.ValueIndices.{length-counts}
use Rattle.plant_record.proofs.lemmas.VariableValues.{vector_length}
use Rattle.text_control.proofs.at_state.apply.Goals as goal
use Rattle.base.proofs.Integers.{literal_fits}

pub value_at-requires-clause-index : goal.value_at-requires-clause-index
value_at-requires-clause-index c =
    omega (arith, c.input_indices-indices.ensures.digits.are.below c.loop-j.j (omega (arith, c.loop-j-test.true, c.requires.sizes, length-counts c.args.plant.now.inputs)))

pub loop-j-preserved : goal.loop-j-preserved
loop-j-preserved c =
    let inputs = c.args.plant.now.inputs in
    let u : ℕ = c.args.vector in
    let j : ℕ = c.loop-j.j in
    let within : j < length inputs = omega (arith, c.loop-j-test.true, c.requires.sizes) in
    let v : ℤ = c.value_at.result in
    let wide : FitsSigned w128 v = search rules in
    let read = c.value_at.ensures.vectors u c.requires.vector (sym (c.input_indices-indices.ensures.each j within)) in
    let narrow : FitsSigned w64 v = literal_fits v c.value_at.ensures.literal in
    let short : j < length c.loop-j.input = omega (arith, c.loop-j-test.true, c.loop-j.auto.input) in
    rw (to_z-of_z w128 v wide, to_z-of_z w64 v narrow)
    (below_more (λ (k : ℕ). get_or (set c.loop-j.input j v) k (pos 0) ≡ get_or (vector_of inputs u) k (pos 0)) j
    (λ k before. let other : k ≢ j = omega (arith, before) in get_or-set_other c.loop-j.input j k v (pos 0) other ∙ c.loop-j.invariant k before)
    (get_or-set_same c.loop-j.input j v (pos 0) short ∙ read))

pub returns : goal.returns
returns c =
    let inputs = c.args.plant.now.inputs in
    let long : length c.loop-j.input ≡ length inputs = c.loop-j.auto.input ∙ c.requires.sizes in
    ext_get_or (pos 0) c.loop-j.input (vector_of inputs c.args.vector) (long ∙ sym (vector_length inputs c.args.vector)) (λ k lt. c.loop-j.invariant k (omega (arith, lt, c.loop-j-test.false)))
