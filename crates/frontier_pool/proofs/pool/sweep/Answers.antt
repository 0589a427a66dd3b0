use Rattle.std.proofs.Common.{◌≡◌, true, Result, Ok, Err, is_err, OnErr, sym, ◌∙◌}
use Rattle.frontier_pool.specs.inside.Members.{hands}
use Rattle.frontier_pool.proofs.Swept.{none_sweeps, sweeps_as, All-hands}
use Rattle.frontier_pool.proofs.pool.sweep.Goals as goal

-- what an error tells
told : {A E : Type 0} (r : Result A E) (P : Type 0) → OnErr r P → is_err r ≡ true → P
told (Ok x) P h e = absurd (cc)
told (Err x) P h e = h

pub returns-then-items-eq0-clause-swept : goal.returns-then-items-eq0-clause-swept
returns-then-items-eq0-clause-swept g c = none_sweeps g.T.Toil.done c.args.members.now c.args.items c.if-items-eq0.true

pub do_all-requires-clause-sound : goal.do_all-requires-clause-sound
do_all-requires-clause-sound g c κs within =
    All-hands (g.T.Toil.sound c.args.job.now) c.args.members.now c.forget_locals.new.members
    (c.forget_locals.ensures.hands ∙ told c.run_in_batches.result (hands c.run_in_batches.new.members ≡ hands c.args.members.now) c.run_in_batches.ensures.same (sym c.is_err.ensures.value ∙ c.if-is_err.true)) c.requires.sound

pub returns-then-is_err-clause-swept : goal.returns-then-is_err-clause-swept
returns-then-is_err-clause-swept g c =
    sweeps_as g.T.Toil.done c.args.members.now c.forget_locals.new.members _ c.args.items
    (c.forget_locals.ensures.hands ∙ told c.run_in_batches.result (hands c.run_in_batches.new.members ≡ hands c.args.members.now) c.run_in_batches.ensures.same (sym c.is_err.ensures.value ∙ c.if-is_err.true)) c.do_all.ensures.swept
