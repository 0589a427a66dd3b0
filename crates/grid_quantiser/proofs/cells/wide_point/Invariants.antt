use Rattle.std.proofs.Common.{◌≡◌, ℕ, ◌<◌, length, get_or, pos}
use Rattle.grid_quantiser.proofs.cells.wide_point.Given as goal

abbrev pub invariant-loop-i : goal.invariant-loop-i
invariant-loop-i l = record {
  six : length l.point ≡ 6;
  each : (k : ℕ) → k < l.i → get_or l.point k (pos 0) ≡ get_or l.state k (pos 0);
}
