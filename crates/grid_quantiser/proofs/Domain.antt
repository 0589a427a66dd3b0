-- States in the domain, and their cells.
use Rattle.std.proofs.Common.{◌<◌, arith, List, [], ◌∷◌, ℤ}
use Rattle.std.specs.List.{All}
use Rattle.std.proofs.lemmas.List.Elements.{All-head, All-tail}
use Rattle.std.proofs.lemmas.Nat.{mul-add-lt}
use Rattle.std.proofs.Math.Nat.{mul_comm}
use Rattle.grid_quantiser.specs.declared.axis.Axis.{Axis}
use Rattle.grid_quantiser.specs.Axes.{IsAxis, cells_of}
use Rattle.grid_quantiser.specs.Cells.{IsInDomain, index_of, cell_of}
use Rattle.grid_quantiser.proofs.AxisNumbers.{index_below}

pub cell_below : (axes : List Axis) (xs : List ℤ) → All IsAxis axes → IsInDomain axes xs → cell_of axes xs < cells_of axes
cell_below [] xs each inside = omega arith
cell_below (a ∷ axes) [] each inside = absurd inside
cell_below (a ∷ axes) (x ∷ xs) each inside =
    let index : index_of a x < a.count = index_below a x (All-head IsAxis a axes each) inside.0 inside.1 in
    omega (arith, mul-add-lt (index_of a x) (cells_of axes) (cell_of axes xs) a.count index (cell_below axes xs (All-tail IsAxis a axes each) inside.2), mul_comm a.count (cells_of axes))
