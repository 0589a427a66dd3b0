use Rattle.std.proofs.Common.{◌^◌, ◌<◌, length, arith}
use Rattle.source_lists.proofs.Tallying.{one_added, others_fit}
use Rattle.source_lists.proofs.intake.add_one.Goals as goal

pub loop-count-preserved : goal.loop-count-preserved
loop-count-preserved c =
    let items = c.loop-count.count-items in
    let i = c.loop-count.count-index in
    let below : i < length items = omega (arith, c.loop-count-test.true, c.loop-count.auto.count-items) in
    record {
      capacity = others_fit (2 ^ 32) items i below c.loop-count.invariant.capacity;
      added = one_added c.args.counts.now items i below c.loop-count.invariant.added;
    }
