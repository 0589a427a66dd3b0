use Rattle.source_lists.proofs.BandCuts.{CutsSoFar}
use Rattle.source_lists.proofs.cuts.cuts_for.Given as goal

abbrev pub invariant-loop-group : goal.invariant-loop-group
invariant-loop-group l = CutsSoFar l.group l.bands l.cuts.items
