use Rattle.std.proofs.Common.{◌≡◌, ℕ, ◌<◌, ◌≤◌, ◌∷◌, length, take, slice_index_or}
use Rattle.frontier_pool.specs.Sweeps.{IsIdle}
use Rattle.frontier_pool.specs.inside.ClaimProtocol.{no_items}
use Rattle.frontier_pool.specs.inside.Members.{IsCaller, claim_lists_of, hands}
use Rattle.frontier_pool.specs.declared.member.Member.{Member}
use Rattle.frontier_pool.proofs.caller.join_seats.Given as goal

abbrev pub invariant-loop-member : goal.invariant-loop-member
invariant-loop-member g l = record {
  caller : IsCaller l.claimed.table_id l.fn.caller.me.0.made (no_items ∷ claim_lists_of (take l.member-index l.fn.members)) l.caller;
  idle : (k : ℕ) (d : Member g.row.H.Denot) → k < l.member-index → IsIdle (slice_index_or l.members k d);
  rest : (k : ℕ) (d : Member g.row.H.Denot) → l.member-index ≤ k → k < length l.members → slice_index_or l.members k d ≡ slice_index_or l.fn.members k d;
  same : hands l.members ≡ hands l.fn.members;
}
