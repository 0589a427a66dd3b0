use Rattle.frontier_pool.proofs.Swept.{sweeps_as, All-hands}
use Rattle.frontier_pool.proofs.pool.run_in_batches.Goals as goal

pub hold_sweep_context-requires-clause-sound : goal.hold_sweep_context-requires-clause-sound
hold_sweep_context-requires-clause-sound g c κs within = All-hands (g.T.Toil.sound c.args.job.now) c.args.members.now c.equip.new.members c.equip.ensures.hands c.requires.sound

pub returns-clause-swept : goal.returns-clause-swept
returns-clause-swept g c = sweeps_as g.T.Toil.done c.args.members.now c.equip.new.members _ c.args.items c.equip.ensures.hands c.hold_sweep_context.ensures.swept
