use Rattle.std.proofs.Common.{◌≡◌, ℕ, ◌≤◌, length, replicate}
use Rattle.grid_quantiser.specs.ExtentBoxes.{one_cell}
use Rattle.pair_boxes.specs.inside.CellLines.{AreCellsFrom, AreSumsOfCells}
use Rattle.pair_boxes.proofs.cell_lines.add_late.Given as goal

-- the sums on the axes of the states so far
abbrev pub invariant-loop-state : goal.invariant-loop-state
invariant-loop-state l = record {
  long : length l.boxes ≡ length l.fn.boxes;
  within : l.state ≤ length l.sampled.plant.now.equations;
  sums : (c n : ℕ) → AreCellsFrom l.sampled.plant.now l.indices c n → AreSumsOfCells l.sampled.plant.now l.fn.from c n (replicate 32 one_cell) l.fn.boxes → AreSumsOfCells l.sampled.plant.now l.state c n l.bases l.boxes;
}
