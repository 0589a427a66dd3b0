use Rattle.std.proofs.Common.{◌≡◌, ◌≢◌, ◌<◌, ℕ, List, length, get_or, set, sym, ap, ◌∙◌, w64, arith, rules, below_more, get_or-set_same, get_or-set_other}
use Rattle.std.specs.Prelude.{ℤ, pos, FitsSigned}
use Rattle.std.proofs.lemmas.Int.{to_z-of_z}
use Rattle.std.proofs.lemmas.List.{ext_get_or, length-set}
use Rattle.mixed_radix.specs.Radix.{digits}
use Rattle.mixed_radix.proofs.Numbers.{number-digits, digit_is}
use Rattle.plant_record.specs.declared.variables.InputVariable.{InputVariable}
use Rattle.plant_record.specs.Description.{value_counts, vectors_of, vector_of}
use Rattle.plant_record.specs.ValueIndices.{value_at, value_count, value_index}
use Rattle.plant_record.proofs.lemmas.ValueIndices.{length-counts, value_by_index}
use Rattle.plant_record.proofs.lemmas.VariableValues.{vector_length}
use Rattle.text_control.proofs.following.vector_at.Goals as goal

index_below : (inputs : List InputVariable) (j u : ℕ) → j < length inputs → u < vectors_of inputs → value_index inputs j u < value_count inputs j
index_below inputs j u lt below =
    let counts : List ℕ = value_counts inputs in
    let of = number-digits counts u below in
    let within : j < length counts = omega (arith, lt, length-counts inputs) in
    omega (arith, digit_is counts (digits counts u) u j of within, of.are.below j within)

pub returns-in_err-indices : goal.returns-in_err-indices
returns-in_err-indices c =
    let inputs = c.args.plant.now.inputs in
    let j : ℕ = c.loop-variable.variable in
    let value : ℤ = get_or c.args.input.now j (pos 0) in
    let fits : FitsSigned w64 value = search rules in
    rw c.from_residual.ensures (λ vector.
    let lt : j < length inputs = omega (arith, c.loop-variable-test.true, c.requires.sizes) in
    let is : value ≡ value_at inputs j (value_index inputs j vector.0) =
    ap (λ (values : List ℤ). get_or values j (pos 0)) vector.2 ∙ value_by_index inputs j vector.0 lt vector.1 in
    c.in_err-indices.ensures (value_index inputs j vector.0) (index_below inputs j vector.0 lt vector.1) (sym (to_z-of_z w64 value fits ∙ is)))

pub loop-variable-preserved : goal.loop-variable-preserved
loop-variable-preserved c =
    let inputs = c.args.plant.now.inputs in
    let j : ℕ = c.loop-variable.variable in
    let i : ℕ = c.in_ok-indices.field-0 in
    let value : ℤ = get_or c.args.input.now j (pos 0) in
    let fits : FitsSigned w64 value = search rules in
    let short : j < length c.loop-variable.indices = omega (arith, c.loop-variable.invariant.0, c.loop-variable-test.true, c.requires.sizes, c.requires.limits.plant.inputs_bound) in (
      length-set c.loop-variable.indices j i ∙ c.loop-variable.invariant.0,
      below_more
          (λ (k : ℕ). (get_or (set c.loop-variable.indices j i) k 0 < value_count inputs k) × (value_at inputs k (get_or (set c.loop-variable.indices j i) k 0) ≡ get_or c.args.input.now k (pos 0))) j
          (λ k before. let other : k ≢ j = omega (arith, before) in rw (get_or-set_other c.loop-variable.indices j k i 0 other) (c.loop-variable.invariant.1 k before))
          (rw (get_or-set_same c.loop-variable.indices j i 0 short) (c.in_ok-indices.ensures.0, c.in_ok-indices.ensures.1 ∙ to_z-of_z w64 value fits)),
    )

pub returns : goal.returns
returns c =
    let inputs = c.args.plant.now.inputs in
    let u : ℕ = c.input_number.result in (
      c.input_number.ensures.below,
      ext_get_or (pos 0) c.args.input.now (vector_of inputs u) (c.requires.sizes ∙ sym (vector_length inputs u)) (λ k lt.
          let within : k < length inputs = omega (arith, lt, c.requires.sizes) in
          let is = (c.loop-variable.invariant.1 k (omega (arith, lt, c.loop-variable-test.false))).1 in
          sym is ∙ ap (value_at inputs k) (c.input_number.ensures.each k within) ∙ sym (value_by_index inputs k u within c.input_number.ensures.below)),
    )
