-- How many input vectors there are.
use Rattle.std.proofs.Common.{ℕ, ◌*◌, ◌≤◌, List, [], ◌∷◌, length, arith}
use Rattle.std.specs.List.{All}
use Rattle.std.proofs.Math.Nat.{mul-pos}
use Rattle.std.proofs.lemmas.Nat.{mul-le}
use Rattle.std.proofs.lemmas.List.Elements.{All-head, All-tail}
use Rattle.plant_record.specs.declared.variables.InputVariable.{InputVariable}
use Rattle.plant_record.specs.Description.{vectors_of}
use Rattle.plant_record.specs.Variables.{IsInputVariable}

one_more : (n m : ℕ) (i : InputVariable) (inputs : List InputVariable) → All IsInputVariable (i ∷ inputs) → vectors_of inputs ≤ n → 64 * n ≤ m → length i.values * vectors_of inputs ≤ m
one_more n m i inputs each few bound = omega (arith, bound, mul-le (length i.values) (vectors_of inputs) 64 n (All-head IsInputVariable i inputs each).values_bound few)

-- three lists of at most 64 values
pub few_vectors : (inputs : List InputVariable) → length inputs ≤ 3 → All IsInputVariable inputs → vectors_of inputs ≤ 262144
few_vectors [] few each = omega arith
few_vectors (a ∷ []) few each = one_more 1 262144 a [] each (omega arith) (omega arith)
few_vectors (a ∷ b ∷ []) few each =
    let t = All-tail IsInputVariable a (b ∷ []) each in
    one_more 64 262144 a (b ∷ []) each (one_more 1 64 b [] t (omega arith) (omega arith)) (omega arith)
few_vectors (a ∷ b ∷ c ∷ []) few each =
    let t = All-tail IsInputVariable a (b ∷ c ∷ []) each in
    let t' = All-tail IsInputVariable b (c ∷ []) t in
    one_more 4096 262144 a (b ∷ c ∷ []) each (one_more 64 4096 b (c ∷ []) t (one_more 1 64 c [] t' (omega arith) (omega arith)) (omega arith)) (omega arith)
few_vectors (a ∷ b ∷ c ∷ d ∷ inputs) few each = absurd (omega (arith, few))

-- each variable has a value
pub some_vectors : (inputs : List InputVariable) → All IsInputVariable inputs → 1 ≤ vectors_of inputs
some_vectors [] each = omega arith
some_vectors (i ∷ inputs) each = mul-pos (All-head IsInputVariable i inputs each).some_value (some_vectors inputs (All-tail IsInputVariable i inputs each))
