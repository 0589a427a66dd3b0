-- Each step keeps the rule.
use Rattle.std.proofs.Common.{◌≡◌, ◌≢◌, ℕ, zero, suc, ◌+◌, ◌<◌, ◌≤◌, List, [], ◌∷◌, ◌++◌, length, set, replicate, max, sum_by, refl, sym, ap, ◌∙◌, arith, length-append}
use Rattle.std.specs.Prelude.{slice_index}
use mathlib.Core.Option.{none, some, some-ne-none, some-injective}
use mathlib.Core.Logic.{dite}
use native.Mathlib.Decide.{ℕ_discrete}
use lib.ListN.{get_elem?}
use Rattle.std.proofs.lemmas.List.{get_or-set_same, get_or-set_other, length-set, length-replicate, set-get_or, nil_from_length}
use Rattle.std.proofs.lemmas.List.Sums.{sum_by-cons, sum_by-append, sum_by_push}
use Rattle.atomic_table.specs.Table.{State, Allows, Splits, Joins, step, keeps, opening}
use Rattle.frontier_pool.specs.declared.rule.ClaimList.{ClaimList}
use Rattle.frontier_pool.specs.declared.rule.SeatView.{SeatView}
use Rattle.frontier_pool.specs.inside.ClaimProtocol.{Keeps, times_in, claims, claim_count, made_of, first_view, member_view, empty_view, with_member, joined_view, with_items, with_claim, Seated, Claims, IsAlone, MakesFinalClaim}
use Rattle.frontier_pool.proofs.Sums.{sum_by-replaced, within-set, zeros_read, times_in-longer, times-itself, times-other, length-longer}
use Rattle.base.specs.Counts.{times}

-- the rule of a new table
pub begins : (items : ℕ) → Keeps items (opening {S = Unit {0}} (replicate items 0) [] first_view)
begins items = record {
  width = length-replicate items 0;
  made = refl;
  counted = λ n. zeros_read items n;
  once = λ n. let none : slice_index (replicate items 0) n ≡ 0 = zeros_read items n in omega arith;
}

made-set : (views : List SeatView) (id : ℕ) (v w : SeatView) → get_elem? views id ≡ some v → w.made ≡ v.made → made_of (set views id w) ≡ made_of views
made-set [] id v w worker same = refl
made-set (x ∷ xs) zero v w worker same = same ∙ ap (λ (u : SeatView). u.made) (sym (some-injective x v worker))
made-set (x ∷ xs) (suc id) v w worker same = refl

made-first : (views : List SeatView) (id : ℕ) (v : SeatView) → id ≡ 0 → get_elem? views id ≡ some v → made_of views ≡ v.made
made-first [] id v first worker = absurd (some-ne-none v (sym worker))
made-first (x ∷ xs) zero v first worker = ap (λ (u : SeatView). u.made) (some-injective x v worker)
made-first (x ∷ xs) (suc id) v first worker = absurd (omega arith)

made-set_first : (views : List SeatView) (id : ℕ) (v w : SeatView) → id ≡ 0 → get_elem? views id ≡ some v → made_of (set views id w) ≡ w.made
made-set_first [] id v w first worker = absurd (some-ne-none v (sym worker))
made-set_first (x ∷ xs) zero v w first worker = refl
made-set_first (x ∷ xs) (suc id) v w first worker = absurd (omega arith)

made-set_other : (views : List SeatView) (id : ℕ) (w : SeatView) → id ≢ 0 → made_of (set views id w) ≡ made_of views
made-set_other [] id w other = refl
made-set_other (x ∷ xs) zero w other = absurd (other refl)
made-set_other (x ∷ xs) (suc id) w other = refl

made-push : (views : List SeatView) (id : ℕ) (v w : SeatView) → get_elem? views id ≡ some v → made_of (views ++ w ∷ []) ≡ made_of views
made-push [] id v w worker = absurd (some-ne-none v (sym worker))
made-push (x ∷ xs) id v w worker = refl

-- the rule after a step that changes a word and a view alike
keeps_after : (items : ℕ) (s : State (Unit {0}) SeatView) (i x id : ℕ) (v w : SeatView) → Keeps items s → get_elem? s.views id ≡ some v → w.made ≡ v.made → claim_count w ≡ claim_count v → x ≤ 1
    → ((n : ℕ) → slice_index (set s.words i x) n + claims n v ≡ slice_index s.words n + claims n w)
    → Keeps items (record { words = set s.words i x; homes = s.homes; views = set s.views id w })
keeps_after items s i x id v w h worker made claim_lists small moved = record {
  width = length-set s.words i x ∙ h.width;
  made = made-set s.views id v w worker made ∙ (let sums = sum_by-replaced claim_count s.views id v w worker in let was = h.made in omega arith);
  counted = λ n. let sums = sum_by-replaced (claims n) s.views id v w worker in let was = h.counted n in let both = moved n in omega arith;
  once = within-set s.words i x small h.once;
}

-- a claim counts for its item alone
pub claimed_itself : (n : ℕ) (v : SeatView) (found : ℕ) → 0 < length v.claim_lists → claims n v ≡ found → found ≤ 1 → claims n (with_claim v n found) ≡ 1
claimed_itself n v zero some_claim_list is small = omega (arith, times_in-longer n v.claim_lists (n ∷ []) some_claim_list, times-itself n)
claimed_itself n v (suc found) some_claim_list is small = omega arith

claim_keeps : (items : ℕ) (s : State (Unit {0}) SeatView) (i id : ℕ) (v : SeatView) (found : ℕ) → Keeps items s → get_elem? s.views id ≡ some v → 0 < length v.claim_lists → i < items → slice_index s.words i ≡ found
    → Keeps items (record { words = set s.words i (max found 1); homes = s.homes; views = set s.views id (with_claim v i found) })
claim_keeps items s i id v zero h worker some_claim_list there is =
    let inside : i < length s.words = let width = h.width in omega arith in
    keeps_after items s i 1 id v (with_items v (i ∷ [])) h worker refl (length-longer v.claim_lists (i ∷ [])) (omega arith)
    (λ n. let more = times_in-longer n v.claim_lists (i ∷ []) some_claim_list in
    dite (ℕ_discrete n i)
    (λ (here : n ≡ i).
    let word : slice_index (set s.words i 1) n ≡ 1 = ap (slice_index (set s.words i 1)) here ∙ get_or-set_same s.words i 1 0 inside in
    let was : slice_index s.words n ≡ 0 = ap (slice_index s.words) here ∙ is in
    let one : times n (i ∷ []) ≡ 1 = ap (λ k. times n (k ∷ [])) (sym here) ∙ times-itself n in
    omega arith)
    (λ (else : n ≢ i).
    let word : slice_index (set s.words i 1) n ≡ slice_index s.words n = get_or-set_other s.words i n 1 0 else in
    let none_more : times n (i ∷ []) ≡ 0 = times-other n i (λ e. else (sym e)) in
    omega arith))
claim_keeps items s i id v (suc found) h worker some_claim_list there is =
    let once : slice_index s.words i ≤ 1 = h.once i in
    let same : max (suc found) 1 ≡ slice_index s.words i = omega arith in
    keeps_after items s i (max (suc found) 1) id v v h worker refl refl (omega arith)
    (λ n. ap (λ x. slice_index (set s.words i x) n + claims n v) same ∙ ap (λ words. slice_index words n + claims n v) (set-get_or s.words i 0))

pub claim_allowed : (items slots id i : ℕ) (me : Seated) → 0 < length me.0.claim_lists → i < items → Allows (Keeps items) slots id me i (λ m. max m 1) (Claims (step slots i 1 0 none) me)
claim_allowed items slots id i me some_claim_list there s h home worker small =
    let found = slice_index s.words i in
    (with_claim me.0 i found, keeps, tt, claim_keeps items s i id me.0 found h worker some_claim_list there refl, refl)

-- a view without a part has no item
nothing_else : (n : ℕ) (views : List SeatView) → sum_by claim_count views ≡ 0 → sum_by (claims n) views ≡ 0
nothing_else n [] none_left = refl
nothing_else n (v ∷ views) none_left =
    let sums = sum_by-cons claim_count v views in
    let bare : v.claim_lists ≡ [] = nil_from_length v.claim_lists (omega arith) in
    let idle : claims n v ≡ 0 = ap (times_in n) bare in
    omega (arith, sum_by-cons (claims n) v views, nothing_else n views (omega arith))

-- where the caller has all parts, they have all items
all_here : (items : ℕ) (s : State (Unit {0}) SeatView) (id n : ℕ) (v : SeatView) → Keeps items s → id ≡ 0 → get_elem? s.views id ≡ some v → IsAlone v → claims n v ≡ slice_index s.words n
all_here items s id n v h first worker alone = cases s.views refl
  where
    cases : (views : List SeatView) → s.views ≡ views → claims n v ≡ slice_index s.words n
    cases [] is = absurd (some-ne-none v (sym worker ∙ ap (λ vs. get_elem? vs id) is))
    cases (caller ∷ members) is =
        let at_front : get_elem? (caller ∷ members) 0 ≡ some v = sym (ap (λ vs. get_elem? vs 0) is) ∙ ap (get_elem? s.views) (sym first) ∙ worker in
        let same : caller ≡ v = some-injective caller v at_front in
        let made : v.made ≡ sum_by claim_count s.views = sym (made-first s.views id v first worker) ∙ h.made in
        let claim_lists : sum_by claim_count s.views ≡ claim_count v + sum_by claim_count members = ap (sum_by claim_count) is ∙ sum_by-cons claim_count caller members ∙ ap (λ (u : SeatView). claim_count u + sum_by claim_count members) same in
        let items : sum_by (claims n) s.views ≡ claims n v + sum_by (claims n) members = ap (sum_by (claims n)) is ∙ sum_by-cons (claims n) caller members ∙ ap (λ (u : SeatView). claims n u + sum_by (claims n) members) same in
        omega (arith, h.counted n, nothing_else n members (omega arith))

pub final_claim_allowed : (items slots id i : ℕ) (me : Seated) → id ≡ 0 → 0 < length me.0.claim_lists → i < items → Allows (Keeps items) slots id me i (λ m. max m 1) (MakesFinalClaim (step slots i 1 0 none) me)
final_claim_allowed items slots id i me first some_claim_list there s h home worker small =
    let found = slice_index s.words i in (
      with_claim me.0 i found,
      keeps,
      tt,
      claim_keeps items s i id me.0 found h worker some_claim_list there refl,
      record { claim = refl; once = λ alone. claimed_itself i me.0 found some_claim_list (all_here items s id i me.0 h first worker alone) (h.once i) },
    )

-- one more member
pub deal_splits : (items id : ℕ) (v : SeatView) → id ≡ 0 → Splits {S = Unit {0}} (Keeps items) id v (with_member v) member_view
deal_splits items id v first s h worker =
    let views = set s.views id (with_member v) in
    let one : claim_count member_view ≡ 1 = refl in
    let claim_lists = sum_by-replaced claim_count s.views id v (with_member v) worker in
    let pushed = sum_by_push claim_count views member_view in
    let made_was : v.made ≡ sum_by claim_count s.views = sym (made-first s.views id v first worker) ∙ h.made in
    let made_is : made_of (views ++ member_view ∷ []) ≡ v.made + 1 = made-pushed s.views id (with_member v) member_view first worker in
    record {
      width = h.width;
      made = omega arith;
      counted = λ n.
          let none_more : claims n member_view ≡ 0 = refl in
          omega (arith, h.counted n, sum_by-replaced (claims n) s.views id v (with_member v) worker, sum_by_push (claims n) views member_view);
      once = h.once;
    }
  where
    made-pushed : (views : List SeatView) (k : ℕ) (w u : SeatView) → k ≡ 0 → get_elem? views k ≡ some v → made_of (set views k w ++ u ∷ []) ≡ w.made
    made-pushed [] k w u front worker = absurd (some-ne-none v (sym worker))
    made-pushed (x ∷ xs) zero w u front worker = refl
    made-pushed (x ∷ xs) (suc k) w u front worker = absurd (omega arith)

-- a member is collected
pub collect_joins : (items id other : ℕ) (v w : SeatView) → id ≡ 0 → Joins {S = Unit {0}} (Keeps items) id v other w (joined_view v w) empty_view
collect_joins items id other v w first s h worker apart there =
    let views = set s.views id (joined_view v w) in
    let bare : claim_count empty_view ≡ 0 = refl in
    let both : claim_count (joined_view v w) ≡ claim_count v + claim_count w = length-append v.claim_lists w.claim_lists in
    let one = sum_by-replaced claim_count s.views id v (joined_view v w) worker in
    let two = sum_by-replaced claim_count views other w empty_view there in
    let made_was : v.made ≡ sum_by claim_count s.views = sym (made-first s.views id v first worker) ∙ h.made in
    let made_is : made_of (set views other empty_view) ≡ v.made = made-set_other views other empty_view (λ e. apart (e ∙ sym first)) ∙ made-set_first s.views id v (joined_view v w) first worker in
    record {
      width = h.width;
      made = omega arith;
      counted = λ n.
          let idle : claims n empty_view ≡ 0 = refl in
          let joined : claims n (joined_view v w) ≡ claims n v + claims n w = sum_by-append (λ (p : ClaimList). times n p.items) v.claim_lists w.claim_lists in
          omega (arith, h.counted n, sum_by-replaced (claims n) s.views id v (joined_view v w) worker, sum_by-replaced (claims n) views other w empty_view there);
      once = h.once;
    }
