-- A state lies in a box where it does in each state, and in some box of a list.
use Rattle.std.proofs.Common.{◌≡◌, ℕ, zero, suc, ◌<◌, ◌≤◌, List, [], ◌∷◌, length, get_or, Some, None, pos, ◌≤ℤ◌, refl, arith}
use Rattle.std.specs.Prelude.{ℤ, slice_get}
use Rattle.grid_quantiser.specs.declared.axis.Axis.{Axis}
use Rattle.grid_quantiser.specs.CellBoxes.{IsAtMost}

pub at_most_each : (axes : List Axis) (xs ys : List ℤ) → IsAtMost axes xs ys → (i : ℕ) → i < length axes → get_or xs i (pos 0) ≤ℤ get_or ys i (pos 0)
at_most_each [] xs ys h i lt = absurd (omega (arith, lt))
at_most_each (a ∷ axes) [] ys h i lt = absurd h
at_most_each (a ∷ axes) (x ∷ xs) [] h i lt = absurd h
at_most_each (a ∷ axes) (x ∷ xs) (y ∷ ys) h zero lt = h.0
at_most_each (a ∷ axes) (x ∷ xs) (y ∷ ys) h (suc i) lt = at_most_each axes xs ys h.1 i (omega (arith, lt))

-- what stands at a position of a list
pub got : {X : Type 0} (xs : List X) (i : ℕ) (x : X) → slice_get xs i ≡ Some x → (i < length xs) × (get_or xs i x ≡ x)
got [] i x e = absurd (let none : None ≡ Some x = e in cc)
got (y ∷ xs) zero x e = (omega arith, cc)
got (y ∷ xs) (suc i) x e = let rest = got xs i x e in (omega (arith, rest.0), rest.1)

pub gets : {X : Type 0} (xs : List X) (i : ℕ) (d : X) → i < length xs → slice_get xs i ≡ Some (get_or xs i d)
gets [] i d lt = absurd (omega (arith, lt))
gets (y ∷ xs) zero d lt = refl
gets (y ∷ xs) (suc i) d lt = gets xs i d (omega (arith, lt))
