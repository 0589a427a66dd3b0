use Rattle.source_lists.proofs.CountedFans.{FansSoFar}
use Rattle.source_lists.proofs.fans.count_part.Given as goal

abbrev pub invariant-loop-b : goal.invariant-loop-b
invariant-loop-b l = FansSoFar l.grid l.boxes l.b-index l.fans.counts.items l.edges
