use Rattle.std.proofs.Common.{ℕ, ◌<◌, ◌≤◌, get_or}
use Rattle.grid_quantiser.proofs.grid.Grid.box_has.Given as goal

abbrev pub invariant-loop-i : goal.invariant-loop-i
invariant-loop-i l = (k : ℕ) → k < l.i → (get_or l.first k 0 ≤ get_or l.indices k 0) × (get_or l.indices k 0 ≤ get_or l.last k 0)
