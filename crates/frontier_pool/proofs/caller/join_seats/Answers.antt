use Rattle.std.proofs.Common.{◌≡◌, ◌+◌, ◌++◌, ◌∷◌, Some, None, get_or, take, refl, ap, sym, subst, arith, ◌∙◌}
use Rattle.std.proofs.lemmas.List.{take_all}
use Rattle.frontier_pool.specs.declared.member.Member.{Member}
use Rattle.frontier_pool.specs.Sweeps.{IsIdle}
use Rattle.frontier_pool.specs.inside.ClaimProtocol.{no_items, Seated}
use Rattle.frontier_pool.specs.inside.Members.{IsCaller, IsSeated, claim_lists_in, claim_lists_of}
use Rattle.frontier_pool.proofs.Steps.{collect_joins}
use Rattle.frontier_pool.proofs.Lists.{hands-set, below-set, after-set, claim_lists_of-more}
use Rattle.frontier_pool.proofs.Locals.{caller_collects, seat_there, nobody_there}
use Rattle.frontier_pool.proofs.caller.join_seats.Goals as goal
use Rattle.frontier_pool.proofs.caller.join_seats.Goals.{in-Some, in_default}

pub loop-member-init : goal.loop-member-init
loop-member-init g c = record { caller = c.requires.caller; idle = λ k d below. absurd (omega arith); rest = λ k d from below. refl; same = refl }

pub join_seat-requires : goal.join_seat-requires
join_seat-requires g c =
    let i = c.loop-member.member-index in
    let m = c.member-item.result in
    let was : m ≡ get_or c.args.members.now i m = c.member-item.is ∙ c.loop-member.invariant.rest i m (omega arith) (omega arith) in
    let local : m.local ≡ Some c.in-Some.field-0 = ap (λ (n : Member g.row.H.Denot). n.local) c.member-item.is ∙ sym c.leave.ensures.local ∙ c.in-Some.is in
    let seat = seat_there c.args.claimed.now.table_id m c.in-Some.field-0 local (subst (IsSeated c.args.claimed.now.table_id) (sym was) (c.requires.seated i m (omega arith))) in
    (c.loop-member.invariant.caller.worker, seat.1.worker, ap (λ (me : Seated). me.1) seat.1.me, c.requires.some, collect_joins _ _ _ _ _ c.loop-member.invariant.caller.first)

pub loop-member-preserved : goal.loop-member-preserved
loop-member-preserved g c =
    let before = c.loop-member in
    let i = before.member-index in
    let m = c.member-item.result in
    let now = c.leave.new.self in
    let table = c.args.claimed.now.table_id in
    let made = c.args.caller.now.me.0.made in
    let was : m ≡ get_or c.args.members.now i m = c.member-item.is ∙ before.invariant.rest i m (omega arith) (omega arith) in
    let more = claim_lists_of-more c.args.members.now i m (omega arith) was in
    record {
      caller = elim c.match-leave.branch [
        | in-Some w ↦
            let local : m.local ≡ Some w.in-Some.field-0 = ap (λ (n : Member g.row.H.Denot). n.local) c.member-item.is ∙ sym c.leave.ensures.local ∙ w.in-Some.is in
            subst (IsCaller table made (no_items ∷ claim_lists_of (take (i + 1) c.args.members.now))) (sym w.caller-is)
            (caller_collects table made (claim_lists_of (take i c.args.members.now)) (claim_lists_of (take (i + 1) c.args.members.now)) before.caller w.join_seat.new.seat w.in-Some.field-0.seat before.invariant.caller w.join_seat.ensures.0 w.join_seat.ensures.1 w.join_seat.ensures.2
            (more ∙ ap (λ r. claim_lists_of (take i c.args.members.now) ++ claim_lists_in r) local))
        | in_default w ↦
            let local : m.local ≡ None = ap (λ (n : Member g.row.H.Denot). n.local) c.member-item.is ∙ sym c.leave.ensures.local ∙ w.in_default.is in
            absurd (nobody_there table m local (subst (IsSeated table) (sym was) (c.requires.seated i m (omega arith))))
      ];
      idle = below-set IsIdle before.members i now (omega arith) before.invariant.idle c.leave.ensures.idle;
      rest = after-set before.members c.args.members.now i now before.invariant.rest;
      same = hands-set before.members i now m c.leave.ensures.hand ∙ before.invariant.same;
    }

pub returns-clause-caller : goal.returns-clause-caller
returns-clause-caller g c =
    subst (λ ms. IsCaller c.args.claimed.now.table_id c.args.caller.now.me.0.made (no_items ∷ claim_lists_of ms) c.loop-member.caller) (take_all c.loop-member.member-index c.args.members.now (omega arith)) c.loop-member.invariant.caller

pub returns-clause-hands : goal.returns-clause-hands
returns-clause-hands g c = c.loop-member.invariant.same

pub returns-clause-idle : goal.returns-clause-idle
returns-clause-idle g c = λ k d lt. c.loop-member.invariant.idle k d (omega arith)
