use Rattle.frontier_pool.proofs.Gains.{gained_then, gained_may}
use Rattle.frontier_pool.proofs.sweep_context.SweepContext.serve.Goals as goal

pub pop_own-requires-clause-seat : goal.pop_own-requires-clause-seat
pop_own-requires-clause-seat g c κs within = gained_may _ _ _ _ _ _ c.requires.seat c.push_batch-pushed.ensures.gained

pub steal_all-requires-clause-seat : goal.steal_all-requires-clause-seat
steal_all-requires-clause-seat g c κs within = gained_may _ _ _ _ _ _ (gained_may _ _ _ _ _ _ c.requires.seat c.push_batch-pushed.ensures.gained) c.pop_own.ensures.gained

pub returns-clause-gained : goal.returns-clause-gained
returns-clause-gained g c = gained_then _ _ _ _ _ _ _ (gained_then _ _ _ _ _ _ _ c.push_batch-pushed.ensures.gained c.pop_own.ensures.gained) c.steal_all.ensures.gained
