use Rattle.source_lists.proofs.MergedFans.{FilledSoFar}
use Rattle.source_lists.proofs.fans.fill_zeros.Given as goal

abbrev pub invariant-loop-distance : goal.invariant-loop-distance
invariant-loop-distance l = FilledSoFar l.fn.known l.found l.known l.distance
