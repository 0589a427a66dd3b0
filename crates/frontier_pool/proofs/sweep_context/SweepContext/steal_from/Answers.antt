use Rattle.frontier_pool.proofs.Gains.{gained_none, gained_then, gained_may}
use Rattle.frontier_pool.proofs.sweep_context.SweepContext.steal_from.Goals as goal

pub loop-steal-init : goal.loop-steal-init
loop-steal-init g c = record { gained = gained_none _ _ _; sound = c.requires.sound }

pub try_one-requires-clause-seat : goal.try_one-requires-clause-seat
try_one-requires-clause-seat g c κs within = gained_may _ _ _ _ _ _ c.requires.seat c.loop-steal.invariant.gained

pub try_one-requires-clause-sound : goal.try_one-requires-clause-sound
try_one-requires-clause-sound g c κs within = c.loop-steal.invariant.sound

pub loop-steal-preserved : goal.loop-steal-preserved
loop-steal-preserved g c = record {
  gained = gained_then _ _ _ _ _ _ _ c.loop-steal.invariant.gained c.try_one.ensures.gained;
  sound = c.try_one.ensures.sound;
}

pub returns-after-loop-steal-clause-gained : goal.returns-after-loop-steal-clause-gained
returns-after-loop-steal-clause-gained g c = c.loop-steal.invariant.gained

pub returns-after-loop-steal-clause-sound : goal.returns-after-loop-steal-clause-sound
returns-after-loop-steal-clause-sound g c = c.loop-steal.invariant.sound

pub returns-in_default : goal.returns-in_default
returns-in_default g c = record { gained = c.loop-steal.invariant.gained; sound = c.loop-steal.invariant.sound }
