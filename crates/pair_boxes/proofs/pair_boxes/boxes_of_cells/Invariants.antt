use Rattle.std.proofs.Common.{◌-◌, ◌≤◌, None}
use Rattle.plant_record.specs.Description.{vectors_of}
use Rattle.pair_boxes.proofs.CellLineLists.{BoxFrom}
use Rattle.pair_boxes.proofs.WrittenRows.{AreWrittenBelow}
use Rattle.pair_boxes.proofs.pair_boxes.boxes_of_cells.Given as goal

-- the boxes of the lines so far, and the others as they were
abbrev pub invariant-loop-done : goal.invariant-loop-done
invariant-loop-done l = record {
  within : l.done ≤ l.cells;
  written : AreWrittenBelow (BoxFrom l.sampled.plant.now l.fn.c) (vectors_of l.sampled.plant.now.inputs) None l.done l.fn.boxes l.boxes;
}

abbrev pub decreases-loop-done : goal.decreases-loop-done
decreases-loop-done l = l.cells - l.done
