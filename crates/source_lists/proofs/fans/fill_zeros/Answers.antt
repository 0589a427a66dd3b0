use Rattle.std.proofs.Common.{arith}
use Rattle.source_lists.proofs.MergedFans.{filled_same, filled_more, filled_all}
use Rattle.source_lists.proofs.fans.fill_zeros.Goals as goal
use Rattle.source_lists.proofs.fans.fill_zeros.Goals.{then-known-distance-eq0, else-known-distance-eq0}

pub loop-distance-preserved : goal.loop-distance-preserved
loop-distance-preserved c = elim c.if-known-distance-eq0.branch [
  | then-known-distance-eq0 w ↦
      rw w.known-is
      (filled_more c.args.known.now c.args.found.now c.loop-distance.known c.loop-distance.distance c.loop-distance-test.true c.loop-distance.invariant w.if-known-distance-eq0.true (omega (arith, c.loop-distance-test.true, c.requires, c.loop-distance.auto.known)))
  | else-known-distance-eq0 w ↦
      rw w.known-is
      (filled_same c.args.known.now c.args.found.now c.loop-distance.known c.loop-distance.distance c.loop-distance-test.true c.loop-distance.invariant (omega (arith, w.if-known-distance-eq0.false)))
]

pub returns : goal.returns
returns c = filled_all c.args.known.now c.args.found.now c.loop-distance.known c.loop-distance.distance c.loop-distance-test.false c.loop-distance.invariant
