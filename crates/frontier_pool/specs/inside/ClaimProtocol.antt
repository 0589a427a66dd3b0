-- The rule of the table below a sweep, and what a step shows.
use Rattle.std.specs.Prelude.{◌≡◌, ℕ, zero, suc, ◌+◌, ◌≤◌, List, [], ◌∷◌, ◌++◌, length, slice_index, sum_by}
use Rattle.atomic_table.specs.Table.{State, Step, Me}
use Rattle.frontier_pool.specs.declared.rule.ClaimList.{ClaimList}
use Rattle.frontier_pool.specs.declared.rule.SeatView.{SeatView}
use Rattle.base.specs.Counts.{times}

-- how often an item stands in some parts
abbrev pub times_in : ℕ → List ClaimList → ℕ
times_in n claim_lists = sum_by (λ (p : ClaimList). times n p.items) claim_lists

-- how often a view has an item
abbrev pub claims : ℕ → SeatView → ℕ
claims n v = times_in n v.claim_lists

-- how many parts a view has
abbrev pub claim_count : SeatView → ℕ
claim_count v = length v.claim_lists

-- how many parts were made: the first view is the caller's
abbrev pub made_of : List SeatView → ℕ
made_of [] = 0
made_of (caller ∷ members) = caller.made

-- the rule: there is a word for each item, all parts that were made are in the views, and each word is how often its item stands in them, at most once
pub record Keeps (items : ℕ) (state : State (Unit {0}) SeatView) : Type 0 where
  pub width : length state.words ≡ items
  pub made : made_of state.views ≡ sum_by claim_count state.views
  pub counted : (n : ℕ) → slice_index state.words n ≡ sum_by (claims n) state.views
  pub once : (n : ℕ) → slice_index state.words n ≤ 1

-- the part in which nothing is
abbrev pub no_items : ClaimList
no_items = record { items = [] }

-- the caller's view of a new table
abbrev pub first_view : SeatView
first_view = record { made = 1; claim_lists = no_items ∷ [] }

-- a new member's view
abbrev pub member_view : SeatView
member_view = record { made = 0; claim_lists = no_items ∷ [] }

-- the view of a member that was collected
abbrev pub empty_view : SeatView
empty_view = record { made = 0; claim_lists = [] }

-- the caller's view with one more member
abbrev pub with_member : SeatView → SeatView
with_member v = record v { made = v.made + 1 }

-- the caller's view with a member's parts
abbrev pub joined_view : SeatView → SeatView → SeatView
joined_view v w = record v { claim_lists = v.claim_lists ++ w.claim_lists }

-- the parts, of which the first has these items besides
abbrev pub with_first_items : List ClaimList → List ℕ → List ClaimList
with_first_items [] more = []
with_first_items (p ∷ claim_lists) more = record { items = p.items ++ more } ∷ claim_lists

-- the view, whose own part has these items besides
abbrev pub with_items : SeatView → List ℕ → SeatView
with_items v more = record v { claim_lists = with_first_items v.claim_lists more }

-- the view after a claim that found this number: the item is claimed where it found 0
abbrev pub with_claim : SeatView → ℕ → ℕ → SeatView
with_claim v item zero = with_items v (item ∷ [])
with_claim v item (suc before) = v

-- what a seat knows
abbrev pub Seated : Type 0
Seated = Me (Unit {0}) SeatView

-- what a claim shows
abbrev pub Claims : Step (Unit {0}) → Seated → ℕ → Seated → Type 0
Claims s me found after = after ≡ (with_claim me.0 s.word found, me.1)

-- the caller has all parts that were made
abbrev pub IsAlone : SeatView → Type 0
IsAlone v = v.made ≡ length v.claim_lists

-- what a claim by the caller shows: where it has all parts, the item stands in them once
pub record MakesFinalClaim (s : Step (Unit {0})) (me : Seated) (found : ℕ) (after : Seated) : Type 0 where
  pub claim : Claims s me found after
  pub once : IsAlone me.0 → claims s.word after.0 ≡ 1
