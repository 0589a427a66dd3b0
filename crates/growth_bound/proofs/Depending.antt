-- The deviation of an expression rests on the variables that stand in it.
use Rattle.std.proofs.Common.{◌≡◌, ℕ, ◌+◌, ◌*◌, true, ◌||◌, List, refl, ap, ap₂}
use Rattle.std.specs.Prelude.{ℤ, pos, nat_abs, max, slice_index_or}
use Rattle.std.proofs.lemmas.Bool.{or_left, or_right, eq-eqb}
use Rattle.fixed_expr.specs.Expression.{Expression, NumExpr, VarExpr, NegExpr, AddExpr, SubExpr, MulExpr, DivExpr, MinExpr, MaxExpr, AbsExpr, LutExpr}
use Rattle.fixed_expr.specs.Mentions.{mentions}
use Rattle.fixed_expr.specs.inside.Alike.{AreSameIn}
use Rattle.interval_eval.specs.declared.interval.Interval.{Interval}
use Rattle.interval_eval.specs.Span.{span_of}
use Rattle.interval_eval.proofs.SpanLaws.{spans_depend_on_variables}
use Rattle.growth_bound.specs.Deviation.{magnitude_of, ceiling_div, greatest_rise, deviation_of}

abbrev no_range : Interval
no_range = record { lo = pos 0; hi = pos 0 }

-- what is the same in both parts of an expression is so in each
module _ {A : Type 0} (d : A) (xs ys : List A) (a b : Expression) (same : (i : ℕ) → (mentions a i || mentions b i) ≡ true → slice_index_or xs i d ≡ slice_index_or ys i d) where
  left : AreSameIn d a xs ys
  left i here = same i (or_left (mentions a i) (mentions b i) here)

  right : AreSameIn d b xs ys
  right i here = same i (or_right (mentions a i) (mentions b i) here)

module _ (area other : List Interval) (radii others : List ℤ) where
  abbrev Agree : Expression → Type 0
  Agree e = AreSameIn no_range e area other → AreSameIn (pos 0) e radii others → deviation_of e area radii ≡ deviation_of e other others

  abbrev IsSameIn : {A : Type 0} → A → Expression → Expression → List A → List A → Type 0
  IsSameIn d a b xs ys = (i : ℕ) → (mentions a i || mentions b i) ≡ true → slice_index_or xs i d ≡ slice_index_or ys i d

  both : (op : ℕ → ℕ → ℕ) (a b : Expression) → Agree a → Agree b → IsSameIn no_range a b area other → IsSameIn (pos 0) a b radii others → op (deviation_of a area radii) (deviation_of b area radii) ≡ op (deviation_of a other others) (deviation_of b other others)
  both op a b in_a in_b ranges moves =
      ap₂ op
      (in_a (left no_range area other a b ranges) (left (pos 0) radii others a b moves))
      (in_b (right no_range area other a b ranges) (right (pos 0) radii others a b moves))

  -- a factor's deviation counts as often as the other factor is large
  scaled : (a b : Expression) → AreSameIn no_range a area other → deviation_of b area radii ≡ deviation_of b other others → magnitude_of (span_of a area) * deviation_of b area radii ≡ magnitude_of (span_of a other) * deviation_of b other others
  scaled a b ranges moves = ap₂ (λ (i : Interval) (n : ℕ). magnitude_of i * n) (spans_depend_on_variables a area other ranges) moves

  pub agree : (e : Expression) → Agree e
  agree (NumExpr k) ranges moves = refl
  agree (VarExpr j) ranges moves = ap nat_abs (moves j (eq-eqb j j refl))
  agree (NegExpr a) ranges moves = agree a ranges moves
  agree (AddExpr a b) ranges moves = both (λ m n. m + n) a b (agree a) (agree b) ranges moves
  agree (SubExpr a b) ranges moves = both (λ m n. m + n) a b (agree a) (agree b) ranges moves
  agree (MulExpr a b) ranges moves =
      let in_a = left no_range area other a b ranges in
      let in_b = right no_range area other a b ranges in
      ap₂ (λ (m n : ℕ). m + n)
      (scaled a b in_a (agree b in_b (right (pos 0) radii others a b moves)))
      (scaled b a in_b (agree a in_a (left (pos 0) radii others a b moves)))
  agree (DivExpr a k) ranges moves = ap (λ (n : ℕ). ceiling_div n (nat_abs k)) (agree a ranges moves)
  agree (MinExpr a b) ranges moves = both max a b (agree a) (agree b) ranges moves
  agree (MaxExpr a b) ranges moves = both max a b (agree a) (agree b) ranges moves
  agree (AbsExpr a) ranges moves = agree a ranges moves
  agree (LutExpr a points) ranges moves = ap (greatest_rise points) (agree a ranges moves)
