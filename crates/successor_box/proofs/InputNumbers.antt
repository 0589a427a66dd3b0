-- The numbers of an input vector are literals, and their indices below the counts of values.
use Rattle.std.proofs.Common.{ℕ, zero, suc, ◌/◌, ◌%◌, ◌^◌, ◌<◌, List, [], ◌∷◌, All, length, get_or, sym, subst, arith, inl, inr}
use Rattle.std.specs.Prelude.{pos, nat_abs}
use Rattle.std.proofs.lemmas.Bool.{cases_lt}
use Rattle.std.proofs.lemmas.List.{get_or_past}
use Rattle.std.proofs.lemmas.List.Elements.{All-get_or, All-head, All-tail}
use Rattle.plant_record.specs.declared.variables.InputVariable.{InputVariable}
use Rattle.std.proofs.lemmas.Nat.{mod_below}
use Rattle.mixed_radix.specs.Radix.{stride}
use Rattle.mixed_radix.proofs.Steps.{some_count}
use Rattle.plant_record.specs.Description.{value_counts, vectors_of, vector_of}
use Rattle.plant_record.specs.ValueIndices.{value_count, value_index}
use Rattle.plant_record.proofs.lemmas.ValueIndices.{length-counts}
use Rattle.plant_record.specs.Variables.{IsInputVariable}
use Rattle.line_words.specs.Numbers.{IsLiteral}

pub value_literal : (inputs : List InputVariable) (u k : ℕ) → All IsInputVariable inputs → nat_abs (get_or (vector_of inputs u) k (pos 0)) < 10 ^ 18
value_literal [] u k each = omega arith
value_literal (i ∷ inputs) u (suc k) each = value_literal inputs (u % vectors_of inputs) k (All-tail IsInputVariable i inputs each)
value_literal (i ∷ inputs) u zero each =
    let index : ℕ = u / vectors_of inputs in
    elim (cases_lt index (length i.values)) [
      | inl within ↦ All-get_or IsLiteral i.values index (pos 0) within (All-head IsInputVariable i inputs each).each
      | inr past ↦ subst IsLiteral (sym (get_or_past i.values index (pos 0) past)) (omega arith)
    ]

pub index_below : (inputs : List InputVariable) (j u : ℕ) → j < length inputs → u < vectors_of inputs → value_index inputs j u < value_count inputs j
index_below inputs j u lt below = mod_below (u / stride (value_counts inputs) j) (value_count inputs j) (some_count (value_counts inputs) j (omega (arith, lt, length-counts inputs)) (omega (arith, below)))
