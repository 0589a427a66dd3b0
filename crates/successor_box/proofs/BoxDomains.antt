-- Boxes in the domain: whether a box lies in it, and the states of one that does.
use Rattle.std.proofs.Common.{List, [], ◌∷◌, refl, arith}
use Rattle.std.specs.Prelude.{ℤ, ◌≤ℤ◌, ◌<ℤ◌}
use Rattle.std.proofs.lemmas.Int.{ints, by_lt_z}
use Rattle.grid_quantiser.specs.declared.axis.Axis.{Axis}
use Rattle.grid_quantiser.specs.Axes.{end_of}
use Rattle.grid_quantiser.specs.Cells.{IsInDomain, cell_of}
use Rattle.grid_quantiser.specs.CellBoxes.{IsInBox, IsBoxInDomain, Touches}

below_low : (lo x : ℤ) → x <ℤ lo → lo ≤ℤ x → ⊥
below_low lo x below low = omega (arith, ints, below, low)

-- a state lies in the domain or it does not
by_domain : {P : Type 0} (axes : List Axis) (xs : List ℤ) → (IsInDomain axes xs → P) → ((IsInDomain axes xs → ⊥) → P) → P
by_domain [] xs holds fails = holds tt
by_domain (a ∷ axes) [] holds fails = fails (λ h. h)
by_domain (a ∷ axes) (x ∷ xs) holds fails =
    by_lt_z x a.lo
    (λ below. fails (λ h. below_low a.lo x below h.0))
    (λ low. by_lt_z x (end_of a)
    (λ high. by_domain axes xs (λ rest. holds (low, high, rest)) (λ rest. fails (λ h. rest h.2)))
    (λ past. fails (λ h. below_low (end_of a) x h.1 past)))

-- a box lies in the domain or it does not
pub by_box_in_domain : {P : Type 0} (axes : List Axis) (lo hi : List ℤ) → (IsBoxInDomain axes lo hi → P) → ((IsBoxInDomain axes lo hi → ⊥) → P) → P
by_box_in_domain axes lo hi holds fails =
    by_domain axes lo (λ low. by_domain axes hi (λ high. holds (low, high)) (λ out. fails (λ h. out h.1))) (λ out. fails (λ h. out h.0))

-- the states of a box in the domain lie in the domain
pub box_inside : (axes : List Axis) (lo hi xs : List ℤ) → IsBoxInDomain axes lo hi → IsInBox axes lo hi xs → IsInDomain axes xs
box_inside [] lo hi xs domain box = tt
box_inside (a ∷ axes) (l ∷ lo) [] (x ∷ xs) domain box = absurd box.1
box_inside (a ∷ axes) (l ∷ lo) (h ∷ hi) (x ∷ xs) domain box =
    (omega (arith, ints, domain.0.0, box.0.0), omega (arith, ints, domain.1.1, box.1.0), box_inside axes lo hi xs (domain.0.2, domain.1.2) (box.0.1, box.1.1))
box_inside _ _ _ _ domain box = absurd box.0

-- the cell of a state of a box meets the box
pub cell_touches : (axes : List Axis) (lo hi xs : List ℤ) → IsInDomain axes xs → IsInBox axes lo hi xs → Touches axes (cell_of axes xs) lo hi
cell_touches axes lo hi xs inside box = (xs, (inside, refl), box)
