use Rattle.std.proofs.Common.{◌≡◌, None, get_or}
use Rattle.pair_box.specs.Sums.{plus}
use Rattle.pair_boxes.proofs.ChangedElements.{AreChangedBelow}
use Rattle.pair_boxes.proofs.cell_lines.add_listed.Given as goal

-- the first boxes have their terms
abbrev pub invariant-loop-i : goal.invariant-loop-i
invariant-loop-i l = AreChangedBelow (λ u old b. b ≡ plus old (get_or l.terms (get_or l.inputs u 0) None)) (λ u. u) None l.i l.fn.boxes l.boxes
