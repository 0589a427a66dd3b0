-- What a text keeps to find successor boxes.
use Rattle.std.specs.Prelude.{◌≡◌, ℕ, ℤ, List, Option, Some, None}
use Rattle.std.specs.List.{Contains}
use Rattle.grid_quantiser.specs.declared.boxes.CellBox.{CellBox}
use Rattle.grid_quantiser.specs.Cells.{IsInDomain, cell_of}
use Rattle.grid_quantiser.specs.CellBoxes.{cells_between}
use Rattle.plant_record.specs.Description.{Description, axes_of}
use Rattle.successor_box.specs.Deviations.{HasNoOverflow, deviations_of}
use Rattle.successor_box.specs.SuccessorBoxes.{IsBoxOf}
use Rattle.controller_table.specs.KindTexts.{RowsModel, HoldsRows}

-- the deviations of a plant's equations, or none where one overflows
abbrev pub AreSlopes : Description → Option (List (List ℤ)) → Type 0
AreSlopes p (Some slopes) = (slopes ≡ deviations_of p) × HasNoOverflow p
AreSlopes p None = HasNoOverflow p → ⊥

-- What a text holds: rows that its kind allows, and the deviations of its plant's equations.
pub record HoldsText (t : RowsModel) (slopes : Option (List (List ℤ))) : Type 0 where
  pub rows : HoldsRows t
  pub slopes_are : AreSlopes t.plant slopes

-- the state lies in the domain, in a cell of the box of a cell under an input vector
abbrev pub LiesInBox : Description → ℕ → ℕ → List ℤ → Type 0
LiesInBox p c u y = (box : CellBox) × IsBoxOf p c u (Some box) × IsInDomain (axes_of p) y × Contains (cells_between (axes_of p) box.first box.last) (cell_of (axes_of p) y)
