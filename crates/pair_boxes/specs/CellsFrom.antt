-- The boxes of cells one after another.
use Rattle.std.specs.Prelude.{◌≡◌, ℕ, ◌+◌, ◌*◌, ◌<◌, ◌≤◌, List, length, slice_index_or, Option, None}
use Rattle.grid_quantiser.specs.declared.boxes.CellBox.{CellBox}
use Rattle.grid_quantiser.specs.Axes.{cells_of}
use Rattle.plant_record.specs.Description.{Description, axes_of, vectors_of}
use Rattle.successor_box.specs.SuccessorBoxes.{IsBoxOf}

-- boxes, one for each input, of cells of the grid from one on
abbrev pub AreInputsOfCells : Description → ℕ → List (Option CellBox) → Type 0
AreInputsOfCells p c boxes = (n : ℕ) × (length boxes ≡ n * vectors_of p.inputs) × (c + n ≤ cells_of (axes_of p))

-- boxes, as many as there are inputs for each cell from one on
abbrev pub AreBoxesFrom : Description → ℕ → List (Option CellBox) → Type 0
AreBoxesFrom p c boxes = (k u : ℕ) → u < vectors_of p.inputs → k * vectors_of p.inputs + u < length boxes → IsBoxOf p (c + k) u (slice_index_or boxes (k * vectors_of p.inputs + u) None)
