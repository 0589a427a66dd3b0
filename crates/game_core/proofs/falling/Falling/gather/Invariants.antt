use Rattle.game_core.specs.inside.Falling.{IsFalling}
use Rattle.game_core.proofs.falling.Falling.gather.Given as goal

abbrev pub invariant-loop-c : goal.invariant-loop-c
invariant-loop-c g l = IsFalling (g.G.Graph.game l.g) l.c 0 l.self
