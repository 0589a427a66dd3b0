use Rattle.std.proofs.Common.{◌≡◌, ◌+◌, ◌*◌, get_or, None}
use Rattle.plant_record.specs.Description.{vectors_of}
use Rattle.pair_box.specs.Sums.{plus}
use Rattle.pair_boxes.proofs.WrittenRows.{AreWrittenBelow}
use Rattle.pair_boxes.proofs.cell_lines.add_bases.Given as goal

-- the first cells' boxes have their base, and the others are as they were
abbrev pub invariant-loop-cell : goal.invariant-loop-cell
invariant-loop-cell l =
    let v = vectors_of l.sampled.plant.now.inputs in
    AreWrittenBelow (λ k u b. b ≡ plus (get_or l.bases k None) (get_or l.fn.boxes (k * v + u) None)) v None l.cell l.fn.boxes l.boxes
