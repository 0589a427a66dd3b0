use Rattle.std.proofs.Common.{◌≡◌, ℕ, ◌*◌, ◌<◌, length, get_or}
use Rattle.text_control.specs.inside.WordPositions.{IsLastUpTo}
use Rattle.text_control.proofs.word_positions.positions_of.Given as goal

abbrev pub invariant-loop-block : goal.invariant-loop-block
invariant-loop-block l = record {
  long : length l.positions.items ≡ l.block;
  each : (b : ℕ) → b < l.block → IsLastUpTo l.words (b * 64) (get_or l.positions.items b 0);
}
