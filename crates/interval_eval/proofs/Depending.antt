-- The span of an expression rests on the variables that stand in it.
use Rattle.std.proofs.Common.{◌≡◌, ℕ, true, ◌||◌, List, refl, ap, ap₂}
use Rattle.std.specs.Prelude.{pos, slice_index_or}
use Rattle.std.proofs.lemmas.Bool.{or_left, or_right, eq-eqb}
use Rattle.fixed_expr.specs.Expression.{Expression, NumExpr, VarExpr, NegExpr, AddExpr, SubExpr, MulExpr, DivExpr, MinExpr, MaxExpr, AbsExpr, LutExpr}
use Rattle.fixed_expr.specs.Mentions.{mentions}
use Rattle.fixed_expr.specs.inside.Alike.{AreSameIn}
use Rattle.interval_eval.specs.declared.interval.Interval.{Interval}
use Rattle.interval_eval.specs.Span.{neg_span, add_span, sub_span, mul_span, div_span, min_span, max_span, abs_span, lut_span, span_of}

abbrev no_range : Interval
no_range = record { lo = pos 0; hi = pos 0 }

module _ (area other : List Interval) where
  abbrev Agree : Expression → Type 0
  Agree e = AreSameIn no_range e area other → span_of e area ≡ span_of e other

  both : (op : Interval → Interval → Interval) (a b : Expression) → Agree a → Agree b → ((i : ℕ) → (mentions a i || mentions b i) ≡ true → slice_index_or area i no_range ≡ slice_index_or other i no_range) → op (span_of a area) (span_of b area) ≡ op (span_of a other) (span_of b other)
  both op a b left right same =
      ap₂ op
      (left (λ i here. same i (or_left (mentions a i) (mentions b i) here)))
      (right (λ i here. same i (or_right (mentions a i) (mentions b i) here)))

  pub agree : (e : Expression) → Agree e
  agree (NumExpr k) same = refl
  agree (VarExpr j) same = same j (eq-eqb j j refl)
  agree (NegExpr a) same = ap neg_span (agree a same)
  agree (AddExpr a b) same = both add_span a b (agree a) (agree b) same
  agree (SubExpr a b) same = both sub_span a b (agree a) (agree b) same
  agree (MulExpr a b) same = both mul_span a b (agree a) (agree b) same
  agree (DivExpr a k) same = ap (λ (i : Interval). div_span i k) (agree a same)
  agree (MinExpr a b) same = both min_span a b (agree a) (agree b) same
  agree (MaxExpr a b) same = both max_span a b (agree a) (agree b) same
  agree (AbsExpr a) same = ap abs_span (agree a same)
  agree (LutExpr a points) same = ap (lut_span points) (agree a same)
