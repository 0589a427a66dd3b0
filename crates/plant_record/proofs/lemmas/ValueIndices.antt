-- The value of a variable in an input vector, by its index.
use Rattle.std.proofs.Common.{◌≡◌, ℕ, suc, zero, ◌%◌, ◌<◌, List, [], ◌∷◌, length, get_or, refl, sym, ap, ◌∙◌, arith}
use Rattle.std.specs.Prelude.{ℤ, pos}
use Rattle.std.proofs.lemmas.List.{get_or-map, length-map}
use Rattle.mixed_radix.specs.Radix.{digits}
use Rattle.mixed_radix.proofs.Numbers.{number-digits, digit_is}
use Rattle.plant_record.specs.declared.variables.InputVariable.{InputVariable}
use Rattle.plant_record.specs.Description.{value_counts, vectors_of, vector_of}
use Rattle.plant_record.specs.ValueIndices.{value_index, value_at, InputsDependOnTheirIndices}

pub length-counts : (inputs : List InputVariable) → length (value_counts inputs) ≡ length inputs
length-counts inputs = length-map inputs (λ (i : InputVariable). length i.values)

-- the values of a variable that was read
pub values_read : (inputs : List InputVariable) (j k : ℕ) (i : InputVariable) → j < length inputs → i ≡ get_or inputs j i → get_or i.values k (pos 0) ≡ value_at inputs j k
values_read inputs j k i lt is = ap (λ (values : List ℤ). get_or values k (pos 0)) (ap (λ (i : InputVariable). i.values) is ∙ sym (get_or-map (λ (i : InputVariable). i.values) inputs j i [] lt))

at_digit : (inputs : List InputVariable) (j u : ℕ) → j < length inputs → get_or (vector_of inputs u) j (pos 0) ≡ value_at inputs j (get_or (digits (value_counts inputs) u) j 0)
at_digit [] j u lt = absurd (omega (arith, lt))
at_digit (i ∷ inputs) zero u lt = refl
at_digit (i ∷ inputs) (suc j) u lt = at_digit inputs j (u % vectors_of inputs) (omega (arith, lt))

pub value_by_index : (inputs : List InputVariable) (j u : ℕ) → j < length inputs → u < vectors_of inputs → get_or (vector_of inputs u) j (pos 0) ≡ value_at inputs j (value_index inputs j u)
value_by_index inputs j u lt below =
    let counts : List ℕ = value_counts inputs in
    at_digit inputs j u lt ∙ ap (value_at inputs j) (sym (digit_is counts (digits counts u) u j (number-digits counts u below) (omega (arith, lt, length-counts inputs))))

pub inputs_rest : InputsDependOnTheirIndices
inputs_rest inputs j u v lt below_u below_v same = value_by_index inputs j u lt below_u ∙ ap (value_at inputs j) same ∙ sym (value_by_index inputs j v lt below_v)
