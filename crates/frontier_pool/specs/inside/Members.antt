-- Members during a sweep.
use Rattle.std.specs.Prelude.{◌≡◌, ℕ, ◌+◌, ◌<◌, List, [], ◌∷◌, ◌++◌, map, length, slice_index_or, All, Option, None, Some}
use Rattle.std.specs.List.{flat_map}
use Rattle.atomic_table.specs.Seated.{TableId}
use Rattle.frontier_pool.specs.declared.member.Member.{Member}
use Rattle.frontier_pool.specs.declared.member.Local.{Local}
use Rattle.frontier_pool.specs.declared.rule.ClaimList.{ClaimList}
use Rattle.frontier_pool.specs.inside.ClaimProtocol.{no_items, with_items, member_view, with_member, IsAlone}
use Rattle.frontier_pool.specs.inside.Gains.{SeatOf}

-- the caller's seat, with these parts of so many that were made
pub record IsCaller (table : TableId) (made : ℕ) (claim_lists : List ClaimList) (seat : SeatOf) : Type 0 where
  pub worker : seat.table_id ≡ table
  pub first : seat.id ≡ 0
  pub me : seat.me ≡ (record { made = made; claim_lists = claim_lists }, [])

-- the caller's seat, where so many members have their own and no part is taken back
abbrev pub IsCallerOf : TableId → ℕ → SeatOf → Type 0
IsCallerOf table members seat = IsCaller table (1 + members) (no_items ∷ []) seat

-- the caller's seat, after these parts of the members' seats are taken back
abbrev pub HasJoined : TableId → List ClaimList → SeatOf → SeatOf → Type 0
HasJoined table claim_lists was now = IsCaller table was.me.0.made (no_items ∷ claim_lists) now

-- the caller's seat, after one more member has its own
pub record HasAddedWorkers (was now : SeatOf) : Type 0 where
  pub table : now.table_id ≡ was.table_id
  pub id : now.id ≡ was.id
  pub me : now.me ≡ (with_member was.me.0, was.me.1)

-- a seat of the table that may claim items
pub record MayClaim (table : TableId) (seat : SeatOf) : Type 0 where
  pub worker : seat.table_id ≡ table
  pub some : 0 < length seat.me.0.claim_lists

-- the caller's seat, with all parts that were made
pub record HasAll (table : TableId) (seat : SeatOf) : Type 0 where
  pub worker : seat.table_id ≡ table
  pub first : seat.id ≡ 0
  pub some : 0 < length seat.me.0.claim_lists
  pub alone : IsAlone seat.me.0

-- a member's seat of the table, with this part
pub record IsSeat (table : TableId) (claim_list : List ℕ) (seat : SeatOf) : Type 0 where
  pub worker : seat.table_id ≡ table
  pub me : seat.me ≡ (with_items member_view claim_list, [])

-- the member has such a seat
abbrev pub HasSeat : TableId → List ℕ → Option Local → Type 0
HasSeat table claim_list None = ⊥
HasSeat table claim_list (Some local) = IsSeat table claim_list local.seat

-- the claims of a member's seat
abbrev pub claim_lists_in : Option Local → List ClaimList
claim_lists_in None = []
claim_lists_in (Some local) = local.seat.me.0.claim_lists

module _ {H : Type 0} where
  -- a member that has its seat and has claimed nothing
  abbrev pub IsReady : TableId → Member H → Type 0
  IsReady table m = HasSeat table [] m.local

  -- a member that has its seat, with some part
  abbrev pub IsSeated : TableId → Member H → Type 0
  IsSeated table m = (claim_list : List ℕ) × HasSeat table claim_list m.local

  -- the parts of all members' seats, in order
  abbrev pub claim_lists_of : List (Member H) → List ClaimList
  claim_lists_of members = flat_map (λ (m : Member H). claim_lists_in m.local) members

  -- the hands of some members
  abbrev pub hands : List (Member H) → List H
  hands members = map (λ (m : Member H). m.hand) members

  -- the member after its work: its seat has what its hand did
  pub record Worked (done : H → List ℕ) (table : TableId) (items : ℕ) (was now : Member H) : Type 0 where
    pub claim_list : List ℕ
    pub within : All (λ n. n < items) claim_list
    pub seat : HasSeat table claim_list now.local
    pub did : done now.hand ≡ done was.hand ++ claim_list

  -- each member after its work
  abbrev pub HaveWorked : (H → List ℕ) → TableId → ℕ → List (Member H) → List (Member H) → Type 0
  HaveWorked done table items was now = (k : ℕ) (d : Member H) → k < length was → Worked done table items (slice_index_or was k d) (slice_index_or now k d)
