use Rattle.std.proofs.Common.{refl, arith, ◌∙◌}
use Rattle.frontier_pool.specs.Sweeps.{IsIdle}
use Rattle.frontier_pool.proofs.Lists.{hands-set, below-set}
use Rattle.frontier_pool.proofs.caller.forget_locals.Goals as goal

pub loop-member-init : goal.loop-member-init
loop-member-init g c = record { idle = λ k d below. absurd (omega arith); same = refl }

pub loop-member-preserved : goal.loop-member-preserved
loop-member-preserved g c = record {
  idle = below-set IsIdle c.loop-member.members c.loop-member.member-index c.leave.new.self (omega arith) c.loop-member.invariant.idle c.leave.ensures.idle;
  same = hands-set c.loop-member.members c.loop-member.member-index c.leave.new.self c.member-item.result c.leave.ensures.hand ∙ c.loop-member.invariant.same;
}

pub returns-clause-hands : goal.returns-clause-hands
returns-clause-hands g c = c.loop-member.invariant.same

pub returns-clause-idle : goal.returns-clause-idle
returns-clause-idle g c = λ k d lt. c.loop-member.invariant.idle k d (omega arith)
