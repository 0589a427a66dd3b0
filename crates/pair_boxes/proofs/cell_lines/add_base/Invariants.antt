use Rattle.std.proofs.Common.{◌≡◌, None}
use Rattle.pair_box.specs.Sums.{plus}
use Rattle.pair_boxes.proofs.ChangedElements.{AreChangedBelow}
use Rattle.pair_boxes.proofs.cell_lines.add_base.Given as goal

-- it is added to the first boxes
abbrev pub invariant-loop-i : goal.invariant-loop-i
invariant-loop-i l = AreChangedBelow (λ u old b. b ≡ plus l.base old) (λ u. u) None l.i l.fn.boxes l.boxes
