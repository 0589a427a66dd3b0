use Rattle.std.proofs.Common.{◌≡◌, ℕ, ◌+◌, ◌*◌, ◌<◌, length, get_or, None}
use Rattle.pair_boxes.proofs.cell_lines.copy_first.Given as goal

-- the boxes so far
abbrev pub invariant-loop-cell : goal.invariant-loop-cell
invariant-loop-cell l = record {
  long : length l.boxes ≡ length l.fn.boxes;
  copied : (k u : ℕ) → k < l.cell → u < l.inputs → get_or l.boxes (k * l.inputs + u) None ≡ get_or l.fn.boxes u None;
}
