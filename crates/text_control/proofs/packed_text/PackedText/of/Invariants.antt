use Rattle.std.proofs.Common.{◌≡◌, take}
use Rattle.text_control.proofs.packed_text.PackedText.of.Given as goal

abbrev pub invariant-loop-turn : goal.invariant-loop-turn
invariant-loop-turn l = l.turns.items ≡ take l.turn l.rows-inside.answers.items
