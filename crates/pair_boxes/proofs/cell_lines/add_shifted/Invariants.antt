use Rattle.std.proofs.Common.{ℕ, ◌+◌, Option, None}
use Rattle.grid_quantiser.specs.declared.boxes.CellBox.{CellBox}
use Rattle.pair_boxes.specs.inside.Terms.{Brings, IsSumAlong}
use Rattle.pair_boxes.proofs.ChangedElements.{AreChangedBelow}
use Rattle.pair_boxes.proofs.cell_lines.add_shifted.Given as goal

-- the first inputs' boxes have their terms, and the others are as they were
abbrev pub invariant-loop-input : goal.invariant-loop-input
invariant-loop-input l =
    let p = l.of.sampled.plant.now in
    AreChangedBelow (λ u old b. (c : ℕ) (base : Option CellBox) → Brings p l.of.state l.table l.first l.own c → IsSumAlong p l.of.state c u base old → IsSumAlong p (l.of.state + 1) c u base b) (λ u. u) None l.input l.fn.boxes l.boxes
