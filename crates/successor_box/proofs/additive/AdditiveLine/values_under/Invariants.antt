use Rattle.std.proofs.Common.{◌≡◌, ℕ, ◌<◌, length, get_or}
use Rattle.std.specs.Prelude.{pos, ◌+ℤ◌}
use Rattle.successor_box.proofs.additive.AdditiveLine.values_under.Given as goal

-- the values so far
abbrev pub invariant-loop-k : goal.invariant-loop-k
invariant-loop-k l = record { long : length l.found ≡ 32; each : (i : ℕ) → i < l.k → get_or l.found i (pos 0) ≡ get_or l.self.values i (pos 0) +ℤ l.increment }
