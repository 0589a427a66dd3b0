use Rattle.std.proofs.Common.{◌≡◌, ℕ, ◌*◌, ◌<◌, length, drop}
use Rattle.text_control.specs.Each.{EncodesReplyAt}
use Rattle.text_control.proofs.at_states.reply_each.Given as goal

-- the replies at the first states, and the inputs of the later ones as they were
abbrev pub invariant-loop-k : goal.invariant-loop-k
invariant-loop-k l = record {
  long : length l.replies ≡ length l.fn.replies;
  wide : length l.inputs ≡ length l.fn.inputs;
  done : (j : ℕ) → j < l.k → EncodesReplyAt l.text l.states l.fn.inputs l.inputs l.replies j;
  later : drop (l.k * l.inputs_each) l.inputs ≡ drop (l.k * l.inputs_each) l.fn.inputs;
}
