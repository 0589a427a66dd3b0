use Rattle.game_core.specs.inside.Search.{IsGathered}
use Rattle.game_core.proofs.search.Search.gather.Given as goal

abbrev pub invariant-loop-c : goal.invariant-loop-c
invariant-loop-c g l = IsGathered (g.G.Graph.game l.g) l.c l.self
