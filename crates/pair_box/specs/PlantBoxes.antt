-- The boxes of all pairs of a cell and an input of a plant.
use Rattle.std.specs.Prelude.{◌≡◌, ℕ, ◌+◌, ◌*◌, ◌<◌, List, length, slice_index_or, Option, None}
use Rattle.grid_quantiser.specs.declared.boxes.CellBox.{CellBox}
use Rattle.grid_quantiser.specs.Axes.{cells_of}
use Rattle.plant_record.specs.Description.{Description, axes_of, vectors_of}
use Rattle.successor_box.specs.SuccessorBoxes.{IsBoxOf}

-- how many pairs of a cell and an input a plant has
abbrev pub pairs_of_plant : Description → ℕ
pairs_of_plant p = cells_of (axes_of p) * vectors_of p.inputs

-- the number of the pair of a cell and an input
abbrev pub pair_of_plant : Description → ℕ → ℕ → ℕ
pair_of_plant p c u = c * vectors_of p.inputs + u

-- the box of a pair, by its number
abbrev pub box_at : List (Option CellBox) → ℕ → Option CellBox
box_at boxes pair = slice_index_or boxes pair None

-- The boxes of all pairs of a plant.
pub record AreBoxesOf (p : Description) (boxes : List (Option CellBox)) : Type 0 where
  pub one_each : length boxes ≡ pairs_of_plant p
  pub each : (c u : ℕ) → c < cells_of (axes_of p) → u < vectors_of p.inputs → IsBoxOf p c u (box_at boxes (pair_of_plant p c u))
