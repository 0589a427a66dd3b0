use Rattle.std.proofs.Common.{◌∷◌, [], length, length-append, ap, arith}
use Rattle.live_table.specs.Publishes.{Published}
use Rattle.run_tests.proofs.live.threads.publish_all.Goals as goal

pub loop-preserved : goal.loop-preserved
loop-preserved g c = omega (arith, c.loop.invariant, ap (λ (p : Published). length p.list) c.in_ok-publish.ensures.list, length-append c.loop.publisher.list (c.in_ok-table_of.field-0 ∷ []))
