use Rattle.std.proofs.Common.{◌≡◌, ◌+◌, [], ◌∷◌, length, refl, subst, arith, ◌∙◌}
use Rattle.frontier_pool.specs.inside.ClaimProtocol.{no_items}
use Rattle.frontier_pool.specs.inside.Members.{IsCaller, IsReady}
use Rattle.frontier_pool.proofs.Lists.{hands-set, below-set}
use Rattle.frontier_pool.proofs.Locals.{caller_deals}
use Rattle.frontier_pool.proofs.caller.equip.Goals as goal

pub loop-member-init : goal.loop-member-init
loop-member-init g c = record { caller = c.requires.caller; ready = λ k d below. absurd (omega arith); same = refl }

pub equip_member-requires-clause-worker : goal.equip_member-requires-clause-worker
equip_member-requires-clause-worker g c = c.loop-member.invariant.caller.worker

pub equip_member-requires-clause-first : goal.equip_member-requires-clause-first
equip_member-requires-clause-first g c = c.loop-member.invariant.caller.first

pub returns-in_err-equip_member-clause-hands : goal.returns-in_err-equip_member-clause-hands
returns-in_err-equip_member-clause-hands g c = hands-set c.loop-member.members c.loop-member.member-index c.equip_member.new.member c.member-item.result c.equip_member.ensures.hand ∙ c.loop-member.invariant.same

pub returns-in_err-push-clause-hands : goal.returns-in_err-push-clause-hands
returns-in_err-push-clause-hands g c = hands-set c.loop-member.members c.loop-member.member-index c.equip_member.new.member c.member-item.result c.equip_member.ensures.hand ∙ c.loop-member.invariant.same

pub loop-member-preserved : goal.loop-member-preserved
loop-member-preserved g c =
    let before = c.loop-member in
    let split_off = c.in_ok-equip_member.ensures.split_off in
    record {
      caller = caller_deals _ _ _ _ _ before.invariant.caller split_off.table split_off.id split_off.me;
      ready = below-set (IsReady c.args.claimed.now.table_id) before.members before.member-index c.equip_member.new.member (omega arith) before.invariant.ready c.in_ok-equip_member.ensures.ready;
      same = hands-set before.members before.member-index c.equip_member.new.member c.member-item.result c.equip_member.ensures.hand ∙ before.invariant.same;
    }

pub returns-clause-caller : goal.returns-clause-caller
returns-clause-caller g c =
    let all : c.loop-member.member-index ≡ length c.args.members.now = omega arith in
    subst (λ n. IsCaller c.args.claimed.now.table_id (1 + n) (no_items ∷ []) c.loop-member.caller) all c.loop-member.invariant.caller

pub returns-clause-ready : goal.returns-clause-ready
returns-clause-ready g c = λ k d lt. c.loop-member.invariant.ready k d (omega arith)

pub returns-clause-hands : goal.returns-clause-hands
returns-clause-hands g c = c.loop-member.invariant.same
