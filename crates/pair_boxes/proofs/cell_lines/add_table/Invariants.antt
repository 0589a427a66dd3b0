use Rattle.std.proofs.Common.{◌≡◌, ℕ, ◌+◌, ◌≤◌, List, length, get_or, Option, None}
use Rattle.grid_quantiser.specs.declared.boxes.CellBox.{CellBox}
use Rattle.plant_record.specs.Description.{Description, vectors_of}
use Rattle.pair_boxes.specs.inside.CellLines.{AreCellsFrom, AreSumsOfCells}
use Rattle.pair_boxes.specs.inside.Terms.{IsSumAlong}
use Rattle.pair_boxes.proofs.WrittenRows.{AreWrittenBelow}
use Rattle.pair_boxes.proofs.cell_lines.add_table.Given as goal

-- with a cell's base a box has the state's term, where it was such a sum before
abbrev pub HasTerm : Description → ℕ → List ℕ → List (Option CellBox) → List (Option CellBox) → List (Option CellBox) → ℕ → ℕ → Option CellBox → Type 0
HasTerm p i indices old_bases old bases k u b = (c n : ℕ) → AreCellsFrom p indices c n → AreSumsOfCells p i c n old_bases old → IsSumAlong p (i + 1) (c + k) u (get_or bases k None) b

-- the first cells have their terms, and the others are as they were
abbrev pub invariant-loop-cell : goal.invariant-loop-cell
invariant-loop-cell l = record {
  bases : length l.bases ≡ 32;
  written : AreWrittenBelow (HasTerm l.of.sampled.plant.now l.of.state l.indices l.fn.bases l.fn.boxes l.bases) (vectors_of l.of.sampled.plant.now.inputs) None l.cell l.fn.boxes l.boxes;
  left_bases : (k : ℕ) → l.cell ≤ k → get_or l.bases k None ≡ get_or l.fn.bases k None;
}
