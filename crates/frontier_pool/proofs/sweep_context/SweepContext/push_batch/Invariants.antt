use Rattle.std.proofs.Common.{◌≤◌}
use Rattle.frontier_pool.specs.inside.Gains.{Gained}
use Rattle.frontier_pool.proofs.sweep_context.SweepContext.push_batch.Given as goal

abbrev pub invariant-loop-number : goal.invariant-loop-number
invariant-loop-number g l = record {
  gained : Gained l.self.items l.fn.local.seat l.local.seat (g.T.Toil.done l.fn.hand) (g.T.Toil.done l.hand);
  sound : g.T.Toil.sound l.self.job.now l.hand;
  few : l.pushed ≤ l.number;
}
