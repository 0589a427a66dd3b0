use Rattle.std.proofs.Common.{slice_index}
use Rattle.source_lists.specs.inside.BandCuts.{AreGroupsTo}
use Rattle.source_lists.proofs.cuts.Cuts.groups.Given as goal

abbrev pub invariant-loop-band : goal.invariant-loop-band
invariant-loop-band l = AreGroupsTo (slice_index l.self.each.items l.band) l.self l.groups.items
