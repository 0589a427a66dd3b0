use Rattle.std.proofs.Common.{ap, sym, subst}
use Rattle.frontier_pool.proofs.Gains.{gained_none, gained_then, gained_may, gained_as}
use Rattle.frontier_pool.proofs.sweep_context.SweepContext.steal_all.Goals as goal
use Rattle.frontier_pool.proofs.sweep_context.SweepContext.steal_all.Goals.{then-position-worker, else-position-worker}

pub loop-position-init : goal.loop-position-init
loop-position-init g c = record { gained = gained_none _ _ _; sound = c.requires.sound }

pub steal_from-requires-clause-seat : goal.steal_from-requires-clause-seat
steal_from-requires-clause-seat g c κs within = gained_may _ _ _ _ _ _ c.requires.seat c.loop-position.invariant.gained

pub steal_from-requires-clause-sound : goal.steal_from-requires-clause-sound
steal_from-requires-clause-sound g c κs within = c.loop-position.invariant.sound

pub loop-position-preserved : goal.loop-position-preserved
loop-position-preserved g c = elim c.if-position-worker.branch [
  | then-position-worker w ↦ record {
    gained = gained_as _ _ _ _ _ _ _ w.seat-is (ap g.T.Toil.done w.hand-is) (gained_then _ _ _ _ _ _ _ c.loop-position.invariant.gained w.steal_from.ensures.gained);
    sound = subst (g.T.Toil.sound c.args.self.now.job.now) (sym w.hand-is) w.steal_from.ensures.sound;
  }
  | else-position-worker w ↦ record {
    gained = gained_as _ _ _ _ _ _ _ w.seat-is (ap g.T.Toil.done w.hand-is) c.loop-position.invariant.gained;
    sound = subst (g.T.Toil.sound c.args.self.now.job.now) (sym w.hand-is) c.loop-position.invariant.sound;
  }
]

pub returns-clause-gained : goal.returns-clause-gained
returns-clause-gained g c = c.loop-position.invariant.gained

pub returns-clause-sound : goal.returns-clause-sound
returns-clause-sound g c = c.loop-position.invariant.sound
