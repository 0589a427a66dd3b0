use Rattle.std.proofs.Common.{◌≡◌, ◌≢◌, ℕ, ◌+◌, ◌-◌, ◌<◌, ◌≤◌, None, length, get_or}
use Rattle.plant_record.specs.Description.{vectors_of}
use Rattle.successor_box.specs.PairExtents.{index_in}
use Rattle.pair_boxes.specs.inside.CellLines.{last_state}
use Rattle.pair_boxes.proofs.CellLineLists.{BoxFrom}
use Rattle.pair_boxes.proofs.WrittenRows.{AreWrittenBelow}
use Rattle.pair_boxes.proofs.cell_lines.boxes_in_line.Given as goal

-- the boxes of the first blocks, and what the first cell's were for the others
abbrev pub invariant-loop-done : goal.invariant-loop-done
invariant-loop-done l = record {
  within : l.done ≤ l.cells;
  nine : length l.indices ≡ 9;
  indices : (k : ℕ) → k < length l.sampled.plant.now.states + length l.sampled.plant.now.inputs → k ≢ last_state l.sampled.plant.now → get_or l.indices k 0 ≡ index_in l.sampled.plant.now l.fn.c 0 k;
  written : AreWrittenBelow (BoxFrom l.sampled.plant.now l.fn.c) (vectors_of l.sampled.plant.now.inputs) None l.done l.initial.boxes l.boxes;
}

abbrev pub decreases-loop-done : goal.decreases-loop-done
decreases-loop-done l = l.cells - l.done
