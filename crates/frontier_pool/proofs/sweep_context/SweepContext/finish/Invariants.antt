use Rattle.std.proofs.Common.{◌≡◌, ℕ, ◌<◌}
use Rattle.frontier_pool.specs.inside.ClaimProtocol.{times_in}
use Rattle.frontier_pool.specs.inside.Gains.{Gained}
use Rattle.frontier_pool.proofs.sweep_context.SweepContext.finish.Given as goal

abbrev pub invariant-loop-item : goal.invariant-loop-item
invariant-loop-item g l = record {
  gained : Gained l.self.items l.fn.caller l.caller (g.T.Toil.done l.fn.hand) (g.T.Toil.done l.hand);
  once : (n : ℕ) → n < l.item → times_in n l.caller.me.0.claim_lists ≡ 1;
  sound : g.T.Toil.sound l.self.job.now l.hand;
}
