use Rattle.std.proofs.Common.{◌≡◌, ℕ, ◌+◌, ◌<◌, [], ◌∷◌, slice_index_or}
use Rattle.frontier_pool.specs.inside.ClaimProtocol.{no_items}
use Rattle.frontier_pool.specs.inside.Members.{IsCaller, IsReady, hands}
use Rattle.frontier_pool.specs.declared.member.Member.{Member}
use Rattle.frontier_pool.proofs.caller.equip.Given as goal

abbrev pub invariant-loop-member : goal.invariant-loop-member
invariant-loop-member g l = record {
  caller : IsCaller l.claimed.table_id (1 + l.member-index) (no_items ∷ []) l.caller;
  ready : (k : ℕ) (d : Member g.row.H.Denot) → k < l.member-index → IsReady l.claimed.table_id (slice_index_or l.members k d);
  same : hands l.members ≡ hands l.fn.members;
}
