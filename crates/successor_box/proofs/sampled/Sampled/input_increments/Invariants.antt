use Rattle.std.proofs.Common.{◌≡◌, ℕ, ◌<◌, length, get_or}
use Rattle.std.specs.Prelude.{pos, ◌+ℤ◌}
use Rattle.successor_box.specs.inside.Lines.{value_at}
use Rattle.successor_box.proofs.sampled.Sampled.input_increments.Given as goal

-- the increments so far
abbrev pub invariant-loop-input : goal.invariant-loop-input
invariant-loop-input l = record {
  long : length l.increments.items ≡ l.input;
  each : (u : ℕ) → u < l.input → value_at l.self.plant.now l.state 0 u ≡ value_at l.self.plant.now l.state 0 0 +ℤ get_or l.increments.items u (pos 0);
}
