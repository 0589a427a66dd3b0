use Rattle.std.proofs.Common.{refl, ap, arith}
use Rattle.std.proofs.lemmas.List.Elements.{All-set, All-get_or}
use Rattle.frontier_pool.specs.declared.member.Member.{Member}
use Rattle.frontier_pool.specs.inside.ClaimProtocol.{Seated}
use Rattle.frontier_pool.proofs.Swept.{all_sweep, caller_has_all, All-hands}
use Rattle.frontier_pool.proofs.pool.hold_sweep_context.Goals as goal

pub join_seats-requires-clause-seated : goal.join_seats-requires-clause-seated
join_seats-requires-clause-seated g c = λ k d lt. let w = c.work_all.ensures.worked k d (omega arith) in (w.claim_list, w.seat)

pub finish-requires-clause-caller : goal.finish-requires-clause-caller
finish-requires-clause-caller g c κs within =
    caller_has_all g.T.Toil.done _ c.args.sweep_context.now.items _ c.args.members.now c.work_all.new.members _ (omega arith) c.work_all.ensures.worked c.join_seats.ensures.caller
    (ap (λ (me : Seated). me.0.made) c.requires.caller.me)

pub finish-requires-clause-sound : goal.finish-requires-clause-sound
finish-requires-clause-sound g c κs within =
    All-get_or (λ (m : Member g.row.T-Hand.Denot). g.T.Toil.sound c.args.sweep_context.now.job.now m.hand) c.join_seats.new.members 0 c.index-members-0.result (omega arith)
    (All-hands (g.T.Toil.sound c.args.sweep_context.now.job.now) c.work_all.new.members c.join_seats.new.members c.join_seats.ensures.hands c.work_all.ensures.sound)

pub returns-clause-swept : goal.returns-clause-swept
returns-clause-swept g c =
    all_sweep g.T.Toil.done _ c.args.sweep_context.now.items _ c.args.members.now c.args.members.now c.work_all.new.members c.join_seats.new.members _ c.index-members-0.result _ _ (omega arith) refl (omega arith)
    c.work_all.ensures.worked c.join_seats.ensures.hands c.join_seats.ensures.caller c.finish.ensures.gained c.finish.ensures.once

pub returns-clause-sound : goal.returns-clause-sound
returns-clause-sound g c =
    All-set (λ (m : Member g.row.T-Hand.Denot). g.T.Toil.sound c.args.sweep_context.now.job.now m.hand) c.join_seats.new.members 0 _ c.finish.ensures.sound
    (All-hands (g.T.Toil.sound c.args.sweep_context.now.job.now) c.work_all.new.members c.join_seats.new.members c.join_seats.ensures.hands c.work_all.ensures.sound)
