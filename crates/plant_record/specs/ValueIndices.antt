-- The indices of an input vector, as those of a cell along its axes.
use Rattle.std.specs.Prelude.{◌≡◌, ℕ, ◌<◌, ℤ, pos, List, [], length, map, slice_index_or}
use Rattle.mixed_radix.specs.Radix.{digit}
use Rattle.plant_record.specs.declared.variables.InputVariable.{InputVariable}
use Rattle.plant_record.specs.Description.{value_counts, vectors_of, vector_of}

-- how many values an input variable has
abbrev pub value_count : List InputVariable → ℕ → ℕ
value_count inputs j = slice_index_or (value_counts inputs) j 0

-- the index of an input vector's value among those of a variable
abbrev pub value_index : List InputVariable → ℕ → ℕ → ℕ
value_index inputs j u = digit (value_counts inputs) j u

-- the value at an index among those of an input variable
abbrev pub value_at : List InputVariable → ℕ → ℕ → ℤ
value_at inputs j index = slice_index_or (slice_index_or (map (λ (i : InputVariable). i.values) inputs) j []) index (pos 0)

-- the value of a variable in an input vector depends on its index alone
abbrev pub InputsDependOnTheirIndices : Type 0
InputsDependOnTheirIndices =
    (inputs : List InputVariable) (j u v : ℕ) → j < length inputs → u < vectors_of inputs → v < vectors_of inputs →
    value_index inputs j u ≡ value_index inputs j v → slice_index_or (vector_of inputs u) j (pos 0) ≡ slice_index_or (vector_of inputs v) j (pos 0)
