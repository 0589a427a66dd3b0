-- Gains of a seat and a hand, one after another.
use Rattle.std.proofs.Common.{◌≡◌, ℕ, ◌<◌, List, [], ◌∷◌, ◌++◌, length, refl, sym, ap, ◌∙◌, subst, append_assoc, arith}
use Rattle.std.proofs.lemmas.List.{append-nil}
use Rattle.std.proofs.lemmas.List.Elements.{All-nil, All-append}
use Rattle.frontier_pool.specs.declared.rule.ClaimList.{ClaimList}
use Rattle.frontier_pool.specs.declared.rule.SeatView.{SeatView}
use Rattle.frontier_pool.specs.inside.ClaimProtocol.{with_first_items, with_items, Seated}
use Rattle.frontier_pool.specs.inside.Gains.{SeatOf, Gained}
use Rattle.atomic_table.specs.Seated.{TableId}
use Rattle.frontier_pool.specs.inside.Members.{HasAll, MayClaim}
use Rattle.frontier_pool.proofs.Sums.{length-longer}

longer-nil : (claim_lists : List ClaimList) → with_first_items claim_lists [] ≡ claim_lists
longer-nil [] = refl
longer-nil (p ∷ claim_lists) = ap (λ (xs : List ℕ). let q : ClaimList = record { items = xs } in q ∷ claim_lists) (append-nil p.items)

longer-longer : (claim_lists : List ClaimList) (xs ys : List ℕ) → with_first_items (with_first_items claim_lists xs) ys ≡ with_first_items claim_lists (xs ++ ys)
longer-longer [] xs ys = refl
longer-longer (p ∷ claim_lists) xs ys = ap (λ (zs : List ℕ). let q : ClaimList = record { items = zs } in q ∷ claim_lists) (append_assoc p.items xs ys)

grown-nil : (v : SeatView) → with_items v [] ≡ v
grown-nil v = ap (λ (claim_lists : List ClaimList). let w : SeatView = record v { claim_lists = claim_lists } in w) (longer-nil v.claim_lists)

grown-grown : (v : SeatView) (xs ys : List ℕ) → with_items (with_items v xs) ys ≡ with_items v (xs ++ ys)
grown-grown v xs ys = ap (λ (claim_lists : List ClaimList). let w : SeatView = record v { claim_lists = claim_lists } in w) (longer-longer v.claim_lists xs ys)

-- nothing
pub gained_none : (items : ℕ) (seat : SeatOf) (did : List ℕ) → Gained items seat seat did did
gained_none items seat did = record {
  claim_list = [];
  within = All-nil (λ n. n < items);
  table = refl;
  id = refl;
  claims = ap (λ (v : SeatView). let me : Seated = (v, seat.me.1) in me) (sym (grown-nil seat.me.0));
  done = sym (append-nil did);
}

-- one after another
pub gained_then : (items : ℕ) (a b c : SeatOf) (x y z : List ℕ) → Gained items a b x y → Gained items b c y z → Gained items a c x z
gained_then items a b c x y z g h = record {
  claim_list = g.claim_list ++ h.claim_list;
  within = All-append (λ n. n < items) g.claim_list h.claim_list g.within h.within;
  table = h.table ∙ g.table;
  id = h.id ∙ g.id;
  claims = h.claims ∙ ap (λ (me : Seated). let it : Seated = (with_items me.0 h.claim_list, me.1) in it) g.claims ∙ ap (λ (v : SeatView). let it : Seated = (v, a.me.1) in it) (grown-grown a.me.0 g.claim_list h.claim_list);
  done = h.done ∙ ap (λ l. l ++ h.claim_list) g.done ∙ append_assoc x g.claim_list h.claim_list;
}

-- the seat keeps as many parts
gained_claim_lists : (items : ℕ) (was now : SeatOf) (did does : List ℕ) → Gained items was now did does → length now.me.0.claim_lists ≡ length was.me.0.claim_lists
gained_claim_lists items was now did does g = ap (λ (me : Seated). length me.0.claim_lists) g.claims ∙ length-longer was.me.0.claim_lists g.claim_list

-- the same gain, told of another name of the seat and of what the hand does
pub gained_as : (items : ℕ) (was now again : SeatOf) (did does doing : List ℕ) → again ≡ now → doing ≡ does → Gained items was now did does → Gained items was again did doing
gained_as items was now again did does doing seat same g = subst (λ s. Gained items was s did doing) (sym seat) (subst (λ l. Gained items was now did l) (sym same) g)

-- a seat goes on claiming
pub gained_may : (items : ℕ) (was now : SeatOf) (did does : List ℕ) (table : TableId) → MayClaim table was → Gained items was now did does → MayClaim table now
gained_may items was now did does table h g =
    let claim_lists = gained_claim_lists items was now did does g in
    record { worker = g.table ∙ h.worker; some = let some_claim_list = h.some in omega arith }

-- the caller keeps all parts
pub gained_all : (items : ℕ) (was now : SeatOf) (did does : List ℕ) (table : TableId) → HasAll table was → Gained items was now did does → HasAll table now
gained_all items was now did does table h g =
    let claim_lists = gained_claim_lists items was now did does g in
    record {
      worker = g.table ∙ h.worker;
      first = g.id ∙ h.first;
      some = let some_claim_list = h.some in omega arith;
      alone = ap (λ (me : Seated). me.0.made) g.claims ∙ h.alone ∙ sym claim_lists;
    }
