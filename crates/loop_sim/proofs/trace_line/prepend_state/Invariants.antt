use Rattle.std.proofs.Common.{◌≡◌, ◌+◌, ◌*◌, ◌≤◌, ◌++◌, length, drop}
use Rattle.loop_sim.specs.inside.StateText.{state_text}
use Rattle.loop_sim.proofs.trace_line.prepend_state.Given as goal

-- the numbers from a position on
abbrev pub invariant-loop-at : goal.invariant-loop-at
invariant-loop-at l = record {
  text : l.text ≡ state_text (drop l.at l.x) ++ l.fn.text;
  bound : length l.text + 41 * l.at ≤ 41 * length l.x + length l.fn.text;
  grows : length l.fn.text ≤ length l.text;
}
