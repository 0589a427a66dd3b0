use Rattle.frontier_pool.specs.inside.Gains.{Gained}
use Rattle.frontier_pool.proofs.sweep_context.SweepContext.steal_from.Given as goal

abbrev pub invariant-loop-steal : goal.invariant-loop-steal
invariant-loop-steal g l = record {
  gained : Gained l.self.items l.fn.seat l.seat (g.T.Toil.done l.fn.hand) (g.T.Toil.done l.hand);
  sound : g.T.Toil.sound l.self.job.now l.hand;
}
