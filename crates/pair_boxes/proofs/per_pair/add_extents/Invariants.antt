use Rattle.std.proofs.Common.{◌≡◌, ◌+◌, ◌*◌, get_or, Option, None}
use Rattle.grid_quantiser.specs.declared.boxes.CellBox.{CellBox}
use Rattle.plant_record.specs.Description.{vectors_of}
use Rattle.pair_box.specs.Sums.{plus}
use Rattle.pair_boxes.specs.inside.Terms.{IsTermFrom}
use Rattle.pair_boxes.proofs.ChangedElements.{AreChangedBelow}
use Rattle.pair_boxes.proofs.per_pair.add_extents.Given as goal

-- the first cells' boxes have their terms, and the others are as they were
abbrev pub invariant-loop-cell : goal.invariant-loop-cell
invariant-loop-cell l =
    let p = l.of.sampled.plant.now in
    AreChangedBelow (λ k old b. (x : Option CellBox) × IsTermFrom p l.of.state 0 (get_or l.extents k None) x × (b ≡ plus old x)) (λ k. k * vectors_of p.inputs + l.input) None l.cell l.fn.boxes l.boxes
