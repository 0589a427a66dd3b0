-- A point has six indices; those past the axes are not looked at.
use Rattle.std.proofs.Common.{◌≡◌, ℕ, ◌+◌, ◌-◌, ◌*◌, ◌≤◌, List, [], ◌∷◌, ◌++◌, length, replicate, refl, ap, arith}
use Rattle.std.specs.Prelude.{ℤ, pos, ◌↔◌}
use Rattle.std.proofs.lemmas.List.{length-map}
use Rattle.plant_record.specs.Description.{Description, axis_of, axes_of}
use Rattle.grid_quantiser.specs.declared.axis.Axis.{Axis}
use Rattle.grid_quantiser.specs.Axes.{cells_of}
use Rattle.grid_quantiser.specs.Cells.{IsInDomain, index_of, cell_of, point_of}

pub domain_more : (axes : List Axis) (xs past : List ℤ) → IsInDomain axes xs → IsInDomain axes (xs ++ past)
domain_more [] xs past h = tt
domain_more (a ∷ axes) [] past h = absurd h
domain_more (a ∷ axes) (x ∷ xs) past h = (h.0, h.1, domain_more axes xs past h.2)

pub domain_less : (axes : List Axis) (xs past : List ℤ) → length axes ≤ length xs → IsInDomain axes (xs ++ past) → IsInDomain axes xs
domain_less [] xs past long h = tt
domain_less (a ∷ axes) [] past long h = absurd (omega (arith, long))
domain_less (a ∷ axes) (x ∷ xs) past long h = (h.0, h.1, domain_less axes xs past (omega (arith, long)) h.2)

pub cell_same : (axes : List Axis) (xs past : List ℤ) → length axes ≤ length xs → cell_of axes (xs ++ past) ≡ cell_of axes xs
cell_same [] xs past long = refl
cell_same (a ∷ axes) [] past long = absurd (omega (arith, long))
cell_same (a ∷ axes) (x ∷ xs) past long = ap (λ (c : ℕ). index_of a x * cells_of axes + c) (cell_same axes xs past (omega (arith, long)))

pub point_lies : (p : Description) (xs : List ℤ) → length p.states ≤ length xs → (IsInDomain (axes_of p) (point_of xs) ↔ IsInDomain (axes_of p) xs) × (cell_of (axes_of p) (point_of xs) ≡ cell_of (axes_of p) xs)
point_lies p xs long =
    let enough : length (axes_of p) ≤ length xs = omega (arith, long, length-map p.states axis_of) in
    let past : List ℤ = replicate (6 - length xs) (pos 0) in
    ((domain_less (axes_of p) xs past enough, domain_more (axes_of p) xs past), cell_same (axes_of p) xs past enough)
