-- Values under each input of equations to which inputs are only added.
use Rattle.std.specs.Prelude.{◌≡◌, ℕ, ◌<◌, ℤ, pos, ◌+ℤ◌, List, length, slice_index_or}
use Rattle.fixed_expr.specs.declared.lanes.TheConstants.{LANES}
use Rattle.fixed_expr.specs.Value.{value_of}
use Rattle.grid_quantiser.specs.Axes.{cells_of}
use Rattle.plant_record.specs.Description.{Description, axes_of, vectors_of}
use Rattle.plant_record.specs.Steps.{equation_at}
use Rattle.successor_box.specs.declared.additive.AdditiveLine.{AdditiveLine}
use Rattle.successor_box.specs.declared.cell_line.CellLine.{CellLine}
use Rattle.successor_box.specs.SuccessorBoxes.{central_values}
use Rattle.successor_box.specs.CellLines.{AreCentresOf}

-- How much the value of a state's equation goes on from the first input vector to each one, in every cell.
pub record AreInputIncrements (p : Description) (i : ℕ) (increments : List ℤ) : Type 0 where
  pub long : length increments ≡ vectors_of p.inputs
  pub each : (c u : ℕ) → c < cells_of (axes_of p) → u < vectors_of p.inputs → value_of (equation_at p i) (central_values p c u) ≡ value_of (equation_at p i) (central_values p c 0) +ℤ slice_index_or increments u (pos 0)

-- what a line has in a lane, and its increment for an input vector more
abbrev pub increased : AdditiveLine → ℕ → ℕ → ℤ
increased line u lane = slice_index_or line.values lane (pos 0) +ℤ slice_index_or line.increments.now u (pos 0)

-- There is an increment for each input vector, and with it a line has the value of a state's equation under that, at the centre of each lane's cell.
pub record IsAdditiveLineOf (p : Description) (cell : ℕ → ℕ) (i : ℕ) (additive : AdditiveLine) : Type 0 where
  pub long : length additive.increments.now ≡ vectors_of p.inputs
  pub each : (u lane : ℕ) → u < vectors_of p.inputs → lane < LANES → increased additive u lane ≡ value_of (equation_at p i) (central_values p (cell lane) u)

-- it has them at the cells whose centres another line has
abbrev pub IsAdditiveAt : Description → CellLine → ℕ → AdditiveLine → Type 0
IsAdditiveAt p line i additive = (cell : ℕ → ℕ) × AreCentresOf p cell line × IsAdditiveLineOf p cell i additive
