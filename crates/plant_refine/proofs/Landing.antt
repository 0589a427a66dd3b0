-- A step under an enabled input lands in a successor, and so does its point.
use Rattle.std.proofs.Common.{◌≡◌, ℕ, List, length, refl, arith}
use Rattle.std.specs.Prelude.{ℤ}
use Rattle.std.specs.List.{Contains}
use Rattle.std.proofs.lemmas.List.{length-map}
use Rattle.grid_quantiser.specs.Cells.{IsInDomain, cell_of, point_of}
use Rattle.grid_quantiser.proofs.Domain.{cell_below}
use Rattle.plant_record.specs.Description.{Description, axes_of}
use Rattle.plant_record.specs.Steps.{IsNoise, step_of}
use Rattle.plant_record.specs.Soundness.{IsSound}
use Rattle.successor_box.specs.SuccessorBoxes.{IsEnabledAt, AreSuccessors}
use Rattle.successor_box.proofs.Padding.{point_lies}
use Rattle.successor_box.proofs.Steps.{step_among}

pub record Lands (p : Description) (c u : ℕ) (y : List ℤ) : Type 0 where
  pub inside : IsInDomain (axes_of p) y
  pub point_inside : IsInDomain (axes_of p) (point_of y)
  pub cell : cell_of (axes_of p) (point_of y) ≡ cell_of (axes_of p) y
  pub among : (cells : List ℕ) → AreSuccessors p c u cells → Contains cells (cell_of (axes_of p) y)

pub lands : (p : Description) (u : ℕ) (x w : List ℤ) → IsSound p → IsInDomain (axes_of p) x → IsEnabledAt p (cell_of (axes_of p) x) u → IsNoise p.noises w
    → Lands p (cell_of (axes_of p) x) u (step_of p x u w)
lands p u x w sound inside enabled noise =
    let step = step_among p (cell_of (axes_of p) x) u x w sound (cell_below (axes_of p) x sound.axes.each inside) (inside, refl) noise enabled in
    let count : length (step_of p x u w) ≡ length p.equations = length-map p.equations _ in
    let same = point_lies p (step_of p x u w) (omega (arith, sound.one_each)) in
    record { inside = step.0; point_inside = same.0.1 step.0; cell = same.1; among = step.1 }
