use Rattle.std.proofs.Common.{◌≡◌, ℕ, ◌<◌, slice_index_or}
use Rattle.frontier_pool.specs.Sweeps.{IsIdle}
use Rattle.frontier_pool.specs.inside.Members.{hands}
use Rattle.frontier_pool.specs.declared.member.Member.{Member}
use Rattle.frontier_pool.proofs.caller.forget_locals.Given as goal

abbrev pub invariant-loop-member : goal.invariant-loop-member
invariant-loop-member g l = record {
  idle : (k : ℕ) (d : Member g.row.H.Denot) → k < l.member-index → IsIdle (slice_index_or l.members k d);
  same : hands l.members ≡ hands l.fn.members;
}
