use Rattle.game_core.proofs.Taking.{IsTaking}
use Rattle.game_core.proofs.search.Search.take.Given as goal

abbrev pub invariant-loop-pair : goal.invariant-loop-pair
invariant-loop-pair g l = IsTaking (g.G.Graph.game l.g) l.head l.rank l.c l.pair-items l.pair-index l.fn.self l.self
