-- Expressions to which inputs are only added.
use Rattle.std.specs.Prelude.{◌≡◌, ℕ, ◌+◌, ◌<◌, ◌≤◌, ℤ, pos, ◌-ℤ◌, List, IsFalse, length, slice_index_or}
use Rattle.fixed_expr.specs.Expression.{Expression}
use Rattle.fixed_expr.specs.Mentions.{mentions}
use Rattle.fixed_expr.specs.Value.{value_of}
use Rattle.plant_record.specs.Description.{Description}

-- no input variable stands in an expression
abbrev pub NamesNoInput : Description → Expression → Type 0
NamesNoInput p e = (k : ℕ) → k < length p.inputs → IsFalse (mentions e (length p.states + k))

-- no state stands in an expression
abbrev pub NamesNoState : Description → Expression → Type 0
NamesNoState p e = (k : ℕ) → k < length p.states → IsFalse (mentions e k)

-- a variable is a state or a noise
abbrev pub IsNoInput : Description → ℕ → Type 0
IsNoInput p k = k < length p.states + length p.inputs → k < length p.states

-- two lists of values differ in input variables alone
abbrev pub DifferInInputs : Description → List ℤ → List ℤ → Type 0
DifferInInputs p xs ys = (k : ℕ) → IsNoInput p k → slice_index_or xs k (pos 0) ≡ slice_index_or ys k (pos 0)

-- two lists of values differ in states alone
abbrev pub DifferInStates : Description → List ℤ → List ℤ → Type 0
DifferInStates p xs ys = (k : ℕ) → length p.states ≤ k → slice_index_or xs k (pos 0) ≡ slice_index_or ys k (pos 0)

-- from some states to others the value goes on by the same number under every input
abbrev pub HasAdditiveInputs : Description → Expression → Type 0
HasAdditiveInputs p e =
    (here there here' there' : List ℤ) → DifferInStates p here there → DifferInStates p here' there' → DifferInInputs p here here' → DifferInInputs p there there' → value_of e there -ℤ value_of e here ≡ value_of e there' -ℤ value_of e here'
