use Rattle.game_core.proofs.Losses.{IsTaking}
use Rattle.game_core.proofs.falling.Falling.take.Given as goal

abbrev pub invariant-loop-pair : goal.invariant-loop-pair
invariant-loop-pair g l = IsTaking (g.G.Graph.game l.g) l.head l.c l.pair-items l.pair-index l.self
