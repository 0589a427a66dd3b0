use Rattle.std.proofs.Common.{◌≡◌, ℕ, ◌<◌, ◌≤◌, length, get_or}
use Rattle.mixed_radix.proofs.Steps.{joined}
use Rattle.mixed_radix.proofs.decode.Given as goal

abbrev pub invariant-loop-i : goal.invariant-loop-i
invariant-loop-i l = record {
  whole : joined l.counts l.digits l.rest l.i ≡ l.number;
  six : length l.digits ≡ 6;
  past : (k : ℕ) → length l.counts ≤ k → get_or l.digits k 0 ≡ 0;
  below : (k : ℕ) → l.i ≤ k → k < length l.counts → get_or l.digits k 0 < get_or l.counts k 0;
}
