-- Which row stands at a state.
use Rattle.std.proofs.Common.{◌≡◌, Bool, true, false, List, [], ◌∷◌, Option, Some, None, refl, ap, ◌∙◌, arith}
use Rattle.std.specs.Prelude.{ℤ, int_le, int_lt, ◌&&◌, ◌≤ℤ◌, if◌then◌else◌}
use Rattle.std.proofs.lemmas.Bool.{and_parts}
use Rattle.std.proofs.lemmas.Int.{ints}
use Rattle.game_core.specs.declared.game.Row.{Row}
use Rattle.game_core.specs.Solution.{row_of}
use Rattle.grid_quantiser.specs.declared.axis.Axis.{Axis}
use Rattle.grid_quantiser.specs.Axes.{end_of}
use Rattle.grid_quantiser.specs.Cells.{IsInDomain, cell_of}
use Rattle.plant_record.specs.Description.{Description, axes_of}
use Rattle.controller_table.specs.Choice.{HasRowAt, is_in_domain, row_at}
use Rattle.base.proofs.Integers.{less_from_int_lt, int_lt_from_less}

not_below : (lo x : ℤ) → int_le lo x ≡ true → lo ≤ℤ x
not_below lo x e = grind (arith, ints)

below_test : (lo x : ℤ) → lo ≤ℤ x → int_le lo x ≡ true
below_test lo x h = grind (arith, ints)

inside : (axes : List Axis) (xs : List ℤ) → is_in_domain axes xs ≡ true → IsInDomain axes xs
inside [] xs e = tt
inside (a ∷ axes) [] e = cc
inside (a ∷ axes) (x ∷ xs) e =
    let parts = and_parts (int_le a.lo x && int_lt x (end_of a)) (is_in_domain axes xs) e in
    let ends = and_parts (int_le a.lo x) (int_lt x (end_of a)) parts.0 in
    (not_below a.lo x ends.0, less_from_int_lt x (end_of a) ends.1, inside axes xs parts.1)

both : (a b c : Bool) → a ≡ true → b ≡ true → c ≡ true → (a && b && c) ≡ true
both a b c e f g = rw (e, f, g) refl

inside_test : (axes : List Axis) (xs : List ℤ) → IsInDomain axes xs → is_in_domain axes xs ≡ true
inside_test [] xs h = refl
inside_test (a ∷ axes) [] h = absurd h
inside_test (a ∷ axes) (x ∷ xs) h =
    both (int_le a.lo x) (int_lt x (end_of a)) (is_in_domain axes xs) (below_test a.lo x h.0) (int_lt_from_less x (end_of a) h.1) (inside_test axes xs h.2)

some_if : (b : Bool) (r : Option Row) (row : Row) → (if b then r else None) ≡ Some row → (b ≡ true) × (r ≡ Some row)
some_if true r row e = (refl, e)
some_if false r row e = cc

none_if : (b : Bool) (r : Option Row) → (b ≡ true → ⊥) → (if b then r else None) ≡ None
none_if true r out = absurd (out refl)
none_if false r out = refl

-- the row of the cell of a state in the domain
pub row_inside : (p : Description) (rows : List (Option Row)) (x : List ℤ) → IsInDomain (axes_of p) x → row_at p rows x ≡ row_of rows (cell_of (axes_of p) x)
row_inside p rows x h = ap (λ (b : Bool). if b then row_of rows (cell_of (axes_of p) x) else None) (inside_test (axes_of p) x h)

pub no_row_outside : (p : Description) (rows : List (Option Row)) (x : List ℤ) → (IsInDomain (axes_of p) x → ⊥) → row_at p rows x ≡ None
no_row_outside p rows x out = none_if (is_in_domain (axes_of p) x) (row_of rows (cell_of (axes_of p) x)) (λ e. out (inside (axes_of p) x e))

-- a state with a row lies in the domain, in a cell with this row
pub in_cell : (p : Description) (rows : List (Option Row)) (x : List ℤ) (row : Row) → HasRowAt p rows x row → IsInDomain (axes_of p) x × (row_of rows (cell_of (axes_of p) x) ≡ Some row)
in_cell p rows x row has =
    let parts = some_if (is_in_domain (axes_of p) x) (row_of rows (cell_of (axes_of p) x)) row has in
    (inside (axes_of p) x parts.0, parts.1)

-- and a state in such a cell has the row
pub row_stands : (p : Description) (rows : List (Option Row)) (x : List ℤ) (row : Row) → IsInDomain (axes_of p) x → row_of rows (cell_of (axes_of p) x) ≡ Some row → HasRowAt p rows x row
row_stands p rows x row within is = row_inside p rows x within ∙ is
