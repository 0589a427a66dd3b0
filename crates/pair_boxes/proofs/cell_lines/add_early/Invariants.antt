use Rattle.std.proofs.Common.{◌≡◌, ℕ, ◌<◌, length}
use Rattle.grid_quantiser.specs.Axes.{cells_of}
use Rattle.grid_quantiser.specs.ExtentBoxes.{one_cell}
use Rattle.plant_record.specs.Description.{axes_of}
use Rattle.pair_boxes.specs.inside.CellLines.{IsInLineOf}
use Rattle.pair_boxes.specs.inside.Terms.{AreIndicesOf, AreSumsAlong}
use Rattle.pair_boxes.proofs.cell_lines.add_early.Given as goal

-- the boxes on the axes of the states so far, of all cells of the line
abbrev pub invariant-loop-state : goal.invariant-loop-state
invariant-loop-state l = record {
  long : length l.boxes ≡ length l.fn.boxes;
  along : (c d : ℕ) → c < cells_of (axes_of l.sampled.plant.now) → AreIndicesOf l.sampled.plant.now c l.indices → IsInLineOf l.sampled.plant.now c d → AreSumsAlong l.sampled.plant.now l.state d one_cell l.boxes;
}
