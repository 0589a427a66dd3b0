use Rattle.std.proofs.Common.{ℕ, ◌<◌, get_or, pos, ◌≤ℤ◌}
use Rattle.plant_refine.proofs.targets.lies_in.Given as goal

abbrev pub invariant-loop-i : goal.invariant-loop-i
invariant-loop-i l = (k : ℕ) → k < l.i → (get_or l.low k (pos 0) ≤ℤ get_or l.x k (pos 0)) × (get_or l.x k (pos 0) ≤ℤ get_or l.high k (pos 0))
