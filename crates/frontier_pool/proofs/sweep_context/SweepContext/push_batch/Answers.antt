use Rattle.std.proofs.Common.{ap, sym, subst, arith}
use Rattle.frontier_pool.proofs.Gains.{gained_none, gained_then, gained_may, gained_as}
use Rattle.frontier_pool.proofs.sweep_context.SweepContext.push_batch.Goals as goal
use Rattle.frontier_pool.proofs.sweep_context.SweepContext.push_batch.Goals.{in-Ok, in-Err}
use Rattle.frontier_pool.specs.declared.member.Local.{Local}

pub loop-number-init : goal.loop-number-init
loop-number-init g c = record { gained = gained_none _ _ _; sound = c.requires.sound; few = omega arith }

pub try_one-requires-clause-seat : goal.try_one-requires-clause-seat
try_one-requires-clause-seat g c κs within = gained_may _ _ _ _ _ _ c.requires.seat c.loop-number.invariant.gained

pub try_one-requires-clause-sound : goal.try_one-requires-clause-sound
try_one-requires-clause-sound g c κs within = c.loop-number.invariant.sound

pub loop-number-preserved : goal.loop-number-preserved
loop-number-preserved g c = elim c.match-push.branch [
  | in-Ok w ↦ record {
    gained = gained_as _ _ _ _ _ _ _ (ap (λ (r : Local). r.seat) w.local-is) (ap g.T.Toil.done w.hand-is) c.loop-number.invariant.gained;
    sound = subst (g.T.Toil.sound c.args.self.now.job.now) (sym w.hand-is) c.loop-number.invariant.sound;
    few = omega (arith, w.pushed-is, c.loop-number.invariant.few);
  }
  | in-Err w ↦ record {
    gained = gained_as _ _ _ _ _ _ _ (ap (λ (r : Local). r.seat) w.local-is) (ap g.T.Toil.done w.hand-is) (gained_then _ _ _ _ _ _ _ c.loop-number.invariant.gained w.try_one.ensures.gained);
    sound = subst (g.T.Toil.sound c.args.self.now.job.now) (sym w.hand-is) w.try_one.ensures.sound;
    few = omega (arith, w.pushed-is, c.loop-number.invariant.few);
  }
]

pub returns-clause-gained : goal.returns-clause-gained
returns-clause-gained g c = c.loop-number.invariant.gained

pub returns-clause-sound : goal.returns-clause-sound
returns-clause-sound g c = c.loop-number.invariant.sound

pub overflow_add-pushed : goal.overflow_add-pushed
overflow_add-pushed g c = omega (arith, c.loop-number.invariant.few)
