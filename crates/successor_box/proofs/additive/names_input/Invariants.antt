use Rattle.std.proofs.Common.{◌≡◌, ℕ, ◌+◌, ◌<◌, length, false}
use Rattle.fixed_expr.specs.Expression.{expression_of}
use Rattle.fixed_expr.specs.Mentions.{mentions}
use Rattle.successor_box.proofs.additive.names_input.Given as goal

-- none of the input variables so far
abbrev pub invariant-loop-k : goal.invariant-loop-k
invariant-loop-k l = record { absent : (i : ℕ) → i < l.k → mentions (expression_of l.e) (length l.sampled.plant.now.states + i) ≡ false }
