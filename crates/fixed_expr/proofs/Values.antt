-- The value of an expression rests on the variables that stand in it.
use Rattle.std.proofs.Common.{◌≡◌, ℕ, true, ◌||◌, List, refl, ap, ap₂}
use Rattle.std.specs.Prelude.{ℤ, pos, nat_abs, neg_ℤ, ◌+ℤ◌, ◌-ℤ◌, ◌*ℤ◌, slice_index_or}
use Rattle.std.specs.Int.{int_min, int_max}
use Rattle.std.proofs.lemmas.Bool.{or_left, or_right, eq-eqb}
use Rattle.fixed_expr.specs.Expression.{Expression, NumExpr, VarExpr, NegExpr, AddExpr, SubExpr, MulExpr, DivExpr, MinExpr, MaxExpr, AbsExpr, LutExpr}
use Rattle.fixed_expr.specs.DivExpr.{floor_div}
use Rattle.fixed_expr.specs.Curves.{curve_value}
use Rattle.fixed_expr.specs.Value.{value_of}
use Rattle.fixed_expr.specs.Mentions.{mentions}
use Rattle.fixed_expr.specs.inside.Alike.{AreSameIn}

module _ (xs ys : List ℤ) where
  abbrev Agree : Expression → Type 0
  Agree e = AreSameIn (pos 0) e xs ys → value_of e xs ≡ value_of e ys

  both : (op : ℤ → ℤ → ℤ) (a b : Expression) → Agree a → Agree b → ((i : ℕ) → (mentions a i || mentions b i) ≡ true → slice_index_or xs i (pos 0) ≡ slice_index_or ys i (pos 0)) → op (value_of a xs) (value_of b xs) ≡ op (value_of a ys) (value_of b ys)
  both op a b left right same =
      ap₂ op
      (left (λ i here. same i (or_left (mentions a i) (mentions b i) here)))
      (right (λ i here. same i (or_right (mentions a i) (mentions b i) here)))

  pub agree : (e : Expression) → Agree e
  agree (NumExpr k) same = refl
  agree (VarExpr j) same = same j (eq-eqb j j refl)
  agree (NegExpr a) same = ap neg_ℤ (agree a same)
  agree (AddExpr a b) same = both (λ x y. x +ℤ y) a b (agree a) (agree b) same
  agree (SubExpr a b) same = both (λ x y. x -ℤ y) a b (agree a) (agree b) same
  agree (MulExpr a b) same = both (λ x y. x *ℤ y) a b (agree a) (agree b) same
  agree (DivExpr a k) same = ap (λ x. floor_div x k) (agree a same)
  agree (MinExpr a b) same = both int_min a b (agree a) (agree b) same
  agree (MaxExpr a b) same = both int_max a b (agree a) (agree b) same
  agree (AbsExpr a) same = ap (λ x. pos (nat_abs x)) (agree a same)
  agree (LutExpr a points) same = ap (curve_value points) (agree a same)
