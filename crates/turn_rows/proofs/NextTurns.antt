-- The turn after a turn.
use Rattle.std.proofs.Common.{ℕ, ◌<◌, arith}
use Rattle.turn_rows.specs.Targets.{next_turn}

pub next_below : (turns j : ℕ) → j < turns → next_turn turns j < turns
next_below turns j lt = omega arith
