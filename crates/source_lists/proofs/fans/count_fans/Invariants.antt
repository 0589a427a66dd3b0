use Rattle.std.proofs.Common.{◌*◌, take}
use Rattle.source_lists.specs.inside.FanCounts.{CountBoxes}
use Rattle.source_lists.proofs.fans.count_fans.Given as goal

abbrev pub invariant-loop-part : goal.invariant-loop-part
invariant-loop-part g l = CountBoxes l.grid (take (l.part-index * l.size) l.boxes) l.fans.counts.items l.fans.edges
