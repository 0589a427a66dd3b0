use Rattle.frontier_pool.proofs.Gains.{gained_none, gained_then, gained_may}
use Rattle.frontier_pool.proofs.sweep_context.SweepContext.pop_own.Goals as goal

pub loop-pop-init : goal.loop-pop-init
loop-pop-init g c = record { gained = gained_none _ _ _; sound = c.requires.sound }

pub try_one-requires-clause-seat : goal.try_one-requires-clause-seat
try_one-requires-clause-seat g c κs within = gained_may _ _ _ _ _ _ c.requires.seat c.loop-pop.invariant.gained

pub try_one-requires-clause-sound : goal.try_one-requires-clause-sound
try_one-requires-clause-sound g c κs within = c.loop-pop.invariant.sound

pub loop-pop-preserved : goal.loop-pop-preserved
loop-pop-preserved g c = record {
  gained = gained_then _ _ _ _ _ _ _ c.loop-pop.invariant.gained c.try_one.ensures.gained;
  sound = c.try_one.ensures.sound;
}

pub returns-after-loop-pop-clause-gained : goal.returns-after-loop-pop-clause-gained
returns-after-loop-pop-clause-gained g c = c.loop-pop.invariant.gained

pub returns-after-loop-pop-clause-sound : goal.returns-after-loop-pop-clause-sound
returns-after-loop-pop-clause-sound g c = c.loop-pop.invariant.sound

pub returns-in-None-clause-gained : goal.returns-in-None-clause-gained
returns-in-None-clause-gained g c = c.loop-pop.invariant.gained

pub returns-in-None-clause-sound : goal.returns-in-None-clause-sound
returns-in-None-clause-sound g c = c.loop-pop.invariant.sound
