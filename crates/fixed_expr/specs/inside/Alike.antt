-- Lists that are the same at the variables of an expression.
use Rattle.std.specs.Prelude.{◌≡◌, ℕ, ℤ, pos, IsTrue, List, slice_index_or}
use Rattle.fixed_expr.specs.Expression.{Expression}
use Rattle.fixed_expr.specs.Mentions.{mentions}

-- at each variable that stands in an expression
abbrev pub AreSameIn : {A : Type 0} → A → Expression → List A → List A → Type 0
AreSameIn d e xs ys = (i : ℕ) → IsTrue (mentions e i) → slice_index_or xs i d ≡ slice_index_or ys i d

-- at each other variable that stands in an expression
abbrev pub AreSameBut : ℕ → Expression → List ℤ → List ℤ → Type 0
AreSameBut k e xs ys = (i : ℕ) → (i ≡ k → ⊥) → IsTrue (mentions e i) → slice_index_or xs i (pos 0) ≡ slice_index_or ys i (pos 0)
