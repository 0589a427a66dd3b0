use Rattle.frontier_pool.specs.inside.Gains.{Gained}
use Rattle.frontier_pool.proofs.sweep_context.SweepContext.pop_own.Given as goal

abbrev pub invariant-loop-pop : goal.invariant-loop-pop
invariant-loop-pop g l = record {
  gained : Gained l.self.items l.fn.local.seat l.local.seat (g.T.Toil.done l.fn.hand) (g.T.Toil.done l.hand);
  sound : g.T.Toil.sound l.self.job.now l.hand;
}
