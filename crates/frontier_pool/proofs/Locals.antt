-- The caller's seat while rooms are filled and emptied.
use Rattle.std.proofs.Common.{◌≡◌, ℕ, ◌+◌, Some, None, List, [], ◌∷◌, ◌++◌, sym, ap, ◌∙◌, subst, arith}
use Rattle.atomic_table.specs.Seated.{TableId}
use Rattle.frontier_pool.specs.declared.member.Member.{Member}
use Rattle.frontier_pool.specs.declared.member.Local.{Local}
use Rattle.frontier_pool.specs.declared.rule.ClaimList.{ClaimList}
use Rattle.frontier_pool.specs.declared.rule.SeatView.{SeatView}
use Rattle.frontier_pool.specs.inside.ClaimProtocol.{Seated, no_items, with_member, joined_view}
use Rattle.frontier_pool.specs.inside.Gains.{SeatOf}
use Rattle.frontier_pool.specs.inside.Members.{IsCaller, IsSeat, HasSeat, IsSeated}

-- one more member has its seat
pub caller_deals : (table : TableId) (n : ℕ) (claim_lists : List ClaimList) (was now : SeatOf) → IsCaller table (1 + n) claim_lists was → now.table_id ≡ was.table_id → now.id ≡ was.id → now.me ≡ (with_member was.me.0, was.me.1)
    → IsCaller table (1 + (n + 1)) claim_lists now
caller_deals table n claim_lists was now c there id me = record {
  worker = there ∙ c.worker;
  first = id ∙ c.first;
  me = me ∙ ap (λ (it : Seated). let next : Seated = (with_member it.0, it.1) in next) c.me
      ∙ (let same : 1 + n + 1 ≡ 1 + (n + 1) = omega arith in ap (λ (k : ℕ). let v : SeatView = record { made = k; claim_lists = claim_lists } in let it : Seated = (v, []) in it) same);
}

-- a member's seat is joined
pub caller_collects : (table : TableId) (made : ℕ) (claim_lists more : List ClaimList) (was now other : SeatOf) → IsCaller table made (no_items ∷ claim_lists) was → now.table_id ≡ was.table_id → now.id ≡ was.id → now.me ≡ (joined_view was.me.0 other.me.0, was.me.1)
    → more ≡ claim_lists ++ other.me.0.claim_lists → IsCaller table made (no_items ∷ more) now
caller_collects table made claim_lists more was now other c there id me all = record {
  worker = there ∙ c.worker;
  first = id ∙ c.first;
  me = me ∙ ap (λ (it : Seated). let next : Seated = (joined_view it.0 other.me.0, it.1) in next) c.me
      ∙ ap (λ (ps : List ClaimList). let v : SeatView = record { made = made; claim_lists = no_items ∷ ps } in let it : Seated = (v, []) in it) (sym all);
}

-- the seat that is in a room
pub seat_there : {H : Type 0} (table : TableId) (m : Member H) (local : Local) → m.local ≡ Some local → IsSeated table m → (claim_list : List ℕ) × IsSeat table claim_list local.seat
seat_there table m local is h = (h.0, subst (HasSeat table h.0) is h.1)

pub nobody_there : {H : Type 0} (table : TableId) (m : Member H) → m.local ≡ None → IsSeated table m → ⊥
nobody_there table m is h = subst (HasSeat table h.0) is h.1
