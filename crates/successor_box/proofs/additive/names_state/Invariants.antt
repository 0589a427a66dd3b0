use Rattle.std.proofs.Common.{◌≡◌, ℕ, ◌<◌, false}
use Rattle.fixed_expr.specs.Expression.{expression_of}
use Rattle.fixed_expr.specs.Mentions.{mentions}
use Rattle.successor_box.proofs.additive.names_state.Given as goal

-- none of the states so far
abbrev pub invariant-loop-k : goal.invariant-loop-k
invariant-loop-k l = record { absent : (i : ℕ) → i < l.k → mentions (expression_of l.e) i ≡ false }
