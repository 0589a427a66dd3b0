use Rattle.std.proofs.Common.{◌≡◌, ℕ, ◌<◌, false}
use Rattle.game_core.specs.Game.{pair_of}
use Rattle.game_core.specs.inside.Falling.{is_safe}
use Rattle.game_core.proofs.falling.Falling.first_safe.Given as goal

-- no input so far is safe
abbrev pub invariant-loop-input : goal.invariant-loop-input
invariant-loop-input g l = (u : ℕ) → u < l.input → is_safe l.self.safe (pair_of (g.G.Graph.game l.g) l.c u) ≡ false
