-- What a member's work adds to its seat and to its hand.
use Rattle.std.specs.Prelude.{◌≡◌, ℕ, ◌<◌, List, ◌++◌, All}
use Rattle.atomic_table.specs.declared.shared.Seat.{Seat}
use Rattle.frontier_pool.specs.declared.rule.SeatView.{SeatView}
use Rattle.frontier_pool.specs.inside.ClaimProtocol.{with_items}

-- a seat of the table
abbrev pub SeatOf : Type 0
SeatOf = Seat (Unit {0}) SeatView

-- what the seat claimed and what the hand did grew by the same items
pub record Gained (items : ℕ) (was now : SeatOf) (did does : List ℕ) : Type 0 where
  pub claim_list : List ℕ
  pub within : All (λ n. n < items) claim_list
  pub table : now.table_id ≡ was.table_id
  pub id : now.id ≡ was.id
  pub claims : now.me ≡ (with_items was.me.0 claim_list, was.me.1)
  pub done : does ≡ did ++ claim_list
