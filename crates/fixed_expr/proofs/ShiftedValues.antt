-- An expression that shifts with a variable shifts by just what the variable shifts by.
use Rattle.std.proofs.Common.{◌≡◌, ℕ, true, false, not, ◌||◌, ◌&&◌, List, sym, ap, ◌∙◌, arith, inl, inr}
use Rattle.std.specs.Prelude.{ℤ, pos, ◌-ℤ◌, slice_index_or}
use Rattle.std.proofs.lemmas.Int.{ints}
use Rattle.std.proofs.lemmas.Bool.{or_left, or_right, or_cases, and_parts, not-true, eqb-true, false≢true}
use Rattle.fixed_expr.specs.Expression.{Expression, VarExpr, AddExpr, SubExpr}
use Rattle.fixed_expr.specs.Value.{value_of}
use Rattle.fixed_expr.specs.Mentions.{mentions}
use Rattle.fixed_expr.specs.Shifts.{shifts_with}
use Rattle.fixed_expr.specs.inside.Alike.{AreSameBut}
use Rattle.fixed_expr.proofs.Values.{agree}

module _ (k : ℕ) (xs ys : List ℤ) where
  abbrev at : List ℤ → ℤ
  at zs = slice_index_or zs k (pos 0)

  abbrev Shifts : Expression → Type 0
  Shifts e = shifts_with e k ≡ true → AreSameBut k e xs ys → value_of e xs -ℤ at xs ≡ value_of e ys -ℤ at ys

  -- a part that doesn't mention the variable has one value
  stays : (e : Expression) → mentions e k ≡ false → AreSameBut k e xs ys → value_of e xs ≡ value_of e ys
  stays e absent same = agree xs ys e (λ i here. same i (λ is. false≢true (sym absent ∙ ap (mentions e) (sym is) ∙ here)) here)

  module _ (a b : Expression) (same : (i : ℕ) → (i ≡ k → ⊥) → (mentions a i || mentions b i) ≡ true → slice_index_or xs i (pos 0) ≡ slice_index_or ys i (pos 0)) where
    left : AreSameBut k a xs ys
    left i other here = same i other (or_left (mentions a i) (mentions b i) here)

    right : AreSameBut k b xs ys
    right i other here = same i other (or_right (mentions a i) (mentions b i) here)

  pub shifts : (e : Expression) → Shifts e
  shifts (VarExpr j) is same = let here : j ≡ k = eqb-true j k is in omega (arith, ints, ap (λ (i : ℕ). slice_index_or xs i (pos 0)) here, ap (λ (i : ℕ). slice_index_or ys i (pos 0)) here)
  shifts (AddExpr a b) is same =
      elim (or_cases (shifts_with a k && not (mentions b k)) (not (mentions a k) && shifts_with b k) is) [
        | inl first ↦
            let parts = and_parts (shifts_with a k) (not (mentions b k)) first in
            omega (arith, ints, shifts a parts.0 (left a b same), stays b (not-true (mentions b k) parts.1) (right a b same))
        | inr second ↦
            let parts = and_parts (not (mentions a k)) (shifts_with b k) second in
            omega (arith, ints, stays a (not-true (mentions a k) parts.0) (left a b same), shifts b parts.1 (right a b same))
      ]
  shifts (SubExpr a b) is same =
      let parts = and_parts (shifts_with a k) (not (mentions b k)) is in
      omega (arith, ints, shifts a parts.0 (left a b same), stays b (not-true (mentions b k) parts.1) (right a b same))
  shifts _ is same = absurd (false≢true is)
