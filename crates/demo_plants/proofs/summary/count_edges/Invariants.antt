use Rattle.std.proofs.Common.{◌≡◌, length, take}
use Rattle.std.specs.Prelude.{sum_by}
use Rattle.demo_plants.proofs.summary.count_edges.Given as goal

abbrev pub invariant-loop-pair : goal.invariant-loop-pair
invariant-loop-pair g l = l.count ≡ sum_by length (take l.pair (g.G.Graph.game l.game).successors)
