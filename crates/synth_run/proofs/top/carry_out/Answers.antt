use Rattle.std.proofs.Common.{refl}
use Rattle.synth_run.proofs.Ending.{ends_stopped, ends_written_out}
use Rattle.synth_run.proofs.top.carry_out.Goals as goal

pub returns-in-Ok : goal.returns-in-Ok
returns-in-Ok g c = ends_written_out c.args.command c.in-Ok.work.text _ _ c.in-Ok.work.played _ _ c.in-Ok.ensures.answer c.in-Ok.ensures.played c.finish.ensures.written c.finish.ensures.left

pub returns-in-Err : goal.returns-in-Err
returns-in-Err g c = rw c.outcome.ensures (ends_stopped c.args.command c.in-Err.stop _ _ (c.in-Err.ensures.stopped) (record { nothing = refl; no_fault = refl }))
