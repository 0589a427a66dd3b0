-- A box is its shape, shifted by its first cell.
use Rattle.std.proofs.Common.{◌≡◌, ℕ, ◌-◌, ◌/◌, ◌%◌, ◌<◌, ◌≤◌, arith, List, [], ◌∷◌}
use Rattle.std.specs.List.{All}
use Rattle.std.proofs.lemmas.List.Elements.{All-tail}
use Rattle.std.proofs.lemmas.Nat.{mod_below}
use Rattle.std.proofs.Math.Nat.{zero-div, zero-mod}
use Rattle.grid_quantiser.specs.declared.axis.Axis.{Axis}
use Rattle.grid_quantiser.specs.Axes.{IsAxis, cells_of}
use Rattle.grid_quantiser.specs.CellBoxes.{IsCellBox}
use Rattle.grid_quantiser.proofs.General.{difference_parts}
use Rattle.grid_quantiser.proofs.Suffixes.{some_cells}
use Rattle.grid_quantiser.proofs.BoxCells.{box_ordered}

-- The parts of the difference of two corners.
module _ (a : Axis) (axes : List Axis) (f l : ℕ) (each : All IsAxis (a ∷ axes)) (box : IsCellBox (a ∷ axes) f l) where
  abbrev n : ℕ
  n = cells_of axes

  pub later : All IsAxis axes
  later = All-tail IsAxis a axes each

  pub some : 0 < n
  some = some_cells axes later

  pub rests : f % n ≤ l % n
  rests = box_ordered axes (f % n) (l % n) later (mod_below f n some) (mod_below l n some) box.2

  pub index_is : (l - f) / n ≡ l / n - f / n
  index_is = (difference_parts f l n some box.0 rests).0

  pub rest_is : (l - f) % n ≡ l % n - f % n
  rest_is = (difference_parts f l n some box.0 rests).1

pub shape_box : (axes : List Axis) (f l : ℕ) → All IsAxis axes → IsCellBox axes f l → IsCellBox axes 0 (l - f)
shape_box [] f l each box = tt
shape_box (a ∷ axes) f l each box =
    let n : ℕ = cells_of axes in
    let index = index_is a axes f l each box in
    rw (zero-div n, zero-mod n, rest_is a axes f l each box)
    (omega arith, omega (arith, index, box.1), shape_box axes (f % n) (l % n) (later a axes f l each box) box.2)
