-- Points that are filled from the front, the next point one equation after the other.
use Rattle.std.proofs.Common.{◌≡◌, ℕ, suc, ◌+◌, ◌-◌, ◌<◌, ◌≤◌, List, [], ◌∷◌, ◌++◌, length, get_or, set, take, map, Option, Some, None, refl, sym, ap, subst, ◌∙◌, append_assoc, arith}
use Rattle.std.specs.Prelude.{ℤ, pos, replicate, SomeIff}
use Rattle.std.specs.List.{All}
use Rattle.std.proofs.lemmas.List.{set_at, length_push, length-take-le, length-map, map_more, take_more, take_all, get_or-map}
use Rattle.std.proofs.lemmas.List.Elements.{All-more, All-map}
use Rattle.fixed_expr.specs.declared.expr.Expr.{Expr}
use Rattle.fixed_expr.specs.Expression.{Expression, expression_of}
use Rattle.fixed_expr.specs.Value.{StaysInRange, IsWellFormed, value_of}
use Rattle.grid_quantiser.specs.Cells.{point_of}

point_pushed : (ys : List ℤ) (i : ℕ) (v : ℤ) → length ys ≡ i → i < 6 → set (point_of ys) i v ≡ point_of (ys ++ v ∷ [])
point_pushed ys i v count lt =
    let left : 6 - length ys ≡ suc (5 - length ys) = omega (arith, count, lt) in
    let less : 5 - length ys ≡ 6 - length (ys ++ v ∷ []) = omega (arith, count, lt, length_push ys v) in
    ap (λ (n : ℕ). set (ys ++ replicate n (pos 0)) i v) left
    ∙ set_at ys (pos 0) (replicate (5 - length ys) (pos 0)) v i count
    ∙ sym (append_assoc ys (v ∷ []) (replicate (5 - length ys) (pos 0)))
    ∙ ap (λ (n : ℕ). (ys ++ v ∷ []) ++ replicate n (pos 0)) less

-- one more number is in its place
pub point_more : (xs : List ℤ) (i : ℕ) (y : ℤ) → i < length xs → length xs ≤ 6 → y ≡ get_or xs i (pos 0) → set (point_of (take i xs)) i y ≡ point_of (take (i + 1) xs)
point_more xs i y lt few is =
    point_pushed (take i xs) i y (length-take-le i xs (omega (arith, lt))) (omega (arith, lt, few))
    ∙ ap point_of (ap (λ (z : ℤ). take i xs ++ z ∷ []) is ∙ sym (take_more xs i (pos 0) lt))

-- the equations stay in range, and next holds their values and 0 after them
abbrev pub AreTaken : {A : Type 0} → (A → Expression) → List ℤ → List A → List ℤ → Type 0
AreTaken expression values equations next =
    All (λ e. StaysInRange (expression e) values) equations × (next ≡ point_of (map (λ e. value_of (expression e) values) equations))

module _ {A : Type 0} (expression : A → Expression) (values : List ℤ) (equations : List A) (next : List ℤ) (i : ℕ) where
  pub taken_more : (e : A) (v : ℤ) → length equations ≤ 6 → i < length equations → e ≡ get_or equations i e → StaysInRange (expression e) values → v ≡ value_of (expression e) values
      → AreTaken expression values (take i equations) next → AreTaken expression values (take (i + 1) equations) (set next i v)
  taken_more e v few lt e-is stays v-is so_far =
      let value = λ (x : A). value_of (expression x) values in
      let count : length (map value (take i equations)) ≡ i = length-map (take i equations) value ∙ length-take-le i equations (omega (arith, lt)) in (
        All-more (λ x. StaysInRange (expression x) values) equations i e lt so_far.0 (subst (λ (x : A). StaysInRange (expression x) values) e-is stays),
        ap (λ ys. set ys i v) so_far.1 ∙ point_pushed (map value (take i equations)) i v count (omega (arith, lt, few))
            ∙ ap (λ y. point_of (map value (take i equations) ++ y ∷ [])) (v-is ∙ ap value e-is)
            ∙ sym (ap point_of (map_more value equations i e lt)),
      )

  pub taken_all : length equations ≤ i → AreTaken expression values (take i equations) next → AreTaken expression values equations next
  taken_all le so_far = subst (λ (es : List A). AreTaken expression values es next) (take_all i equations le) so_far

-- what holds of the expressions holds of where they lie in memory
all_below : (P : Expression → Type 0) (equations : List Expr) → All P (map expression_of equations) → All (λ e. P (expression_of e)) equations
all_below P equations each k d lt =
    subst P (get_or-map expression_of equations k d (expression_of d) lt) (each k (expression_of d) (omega (arith, lt, length-map equations expression_of)))

pub formed_below : (m : ℕ) (equations : List Expr) (expressions : List Expression) → map expression_of equations ≡ expressions → All (λ e. IsWellFormed e m) expressions → All (λ e. IsWellFormed (expression_of e) m) equations
formed_below m equations expressions same each = all_below (λ e. IsWellFormed e m) equations (subst (λ es. All (λ e. IsWellFormed e m) es) (sym same) each)

values_below : (values : List ℤ) (equations : List Expr) → map (λ e. value_of (expression_of e) values) equations ≡ map (λ e. value_of e values) (map expression_of equations)
values_below values [] = refl
values_below values (e ∷ equations) = ap (λ ys. value_of (expression_of e) values ∷ ys) (values_below values equations)

-- the next point of the equations where they lie in memory is that of the expressions
pub next_is : (r : Option (List ℤ)) (values : List ℤ) (equations : List Expr)
    → SomeIff r (All (λ e. StaysInRange (expression_of e) values) equations) (point_of (map (λ e. value_of (expression_of e) values) equations))
    → SomeIff r (All (λ e. StaysInRange e values) (map expression_of equations)) (point_of (map (λ e. value_of e values) (map expression_of equations)))
next_is None values equations h = λ each. h (all_below (λ e. StaysInRange e values) equations each)
next_is (Some x) values equations h = (All-map (λ e. StaysInRange e values) expression_of equations h.0, h.1 ∙ ap point_of (values_below values equations))
