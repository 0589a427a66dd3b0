-- The best row of a cell, input by input.
use Rattle.std.proofs.Common.{inl, inr, ◌≡◌, ◌≢◌, ℕ, zero, suc, ◌+◌, ◌<◌, ◌≤◌, max, Bool, true, false, List, [], ◌∷◌, ◌++◌, Option, Some, None, All, Contains, arith, refl, sym, ◌∙◌, ap, subst}
use Rattle.std.specs.Prelude.{nat_le}
use Rattle.std.proofs.lemmas.Bool.{cases_lt, leb-true, leb-false}
use Rattle.std.proofs.lemmas.List.Elements.{All-head, All-tail, All-contains}
use Rattle.game_core.specs.declared.game.Row.{Row}
use Rattle.game_core.specs.Game.{Game, IsEnabled, successors_of}
use Rattle.game_core.specs.Solution.{row_of, rank_in, rank_at, greatest_rank, HasRow, HasRowBelow}
use Rattle.game_core.specs.Right.{LeadsDownTo, IsRightPlain, IsRightRanked}
use Rattle.temporal_games.specs.inside.BestRows.{IsRankAfter, pick, better, IsBest, IsBestBelow}
use Rattle.game_core.proofs.Right.{greatest_below}

pub greatest_push : (rows : List (Option Row)) (xs : List ℕ) (s : ℕ) → greatest_rank rows (xs ++ s ∷ []) ≡ max (greatest_rank rows xs) (rank_at rows s)
greatest_push rows [] s = omega arith
greatest_push rows (x ∷ xs) s = let more = greatest_push rows xs s in omega arith

less_greatest : (rows : List (Option Row)) (k : ℕ) (cells : List ℕ) → cells ≢ [] → All (HasRowBelow rows k) cells → greatest_rank rows cells < k
less_greatest rows k [] some' h = absurd (some' refl)
less_greatest rows zero (s ∷ cells) some' h = let below = (All-head (HasRowBelow rows 0) s cells h).below in absurd (omega (arith, below))
less_greatest rows (suc k) (s ∷ cells) some' h = let most = greatest_below rows k (s ∷ cells) h in omega (arith, most)

module _ (g : Game) (rows : List (Option Row)) (c : ℕ) where
  -- an input without a rank after it leads nowhere
  no_lead : (v k : ℕ) → IsRankAfter rows (successors_of g c v) None → LeadsDownTo g rows c v k → ⊥
  no_lead v k (inl none) leads = leads.enabled.1 none
  no_lead v k (inr found) leads = let row = All-contains (HasRow rows) (successors_of g c v) found.0 leads.ranked found.1 in let is = row.1 in let gone = found.2 in cc

  lost_lead : (v k s : ℕ) → Contains (successors_of g c v) s → row_of rows s ≡ None → LeadsDownTo g rows c v k → ⊥
  lost_lead v k s has gone leads = let row = All-contains (HasRow rows) (successors_of g c v) s leads.ranked has in let is = row.1 in cc

  pub none_more : (i : ℕ) (best : Option Row) → IsBestBelow g rows c i best → IsRankAfter rows (successors_of g c i) None → IsBestBelow g rows c (i + 1) best
  none_more i None h after = λ v lt enabled.
      elim (cases_lt v i) [
        | inl less ↦ h v less enabled
        | inr ge ↦
            let same : i ≡ v = omega arith in
            rowless v enabled (subst (λ (v : ℕ). IsRankAfter rows (successors_of g c v) None) same after)
      ]
    where
      rowless : (v : ℕ) → IsEnabled g c v → IsRankAfter rows (successors_of g c v) None → (s : ℕ) × Contains (successors_of g c v) s × (row_of rows s ≡ None)
      rowless v enabled (inl none) = absurd (enabled.1 none)
      rowless v enabled (inr found) = found
  none_more i (Some row) h after = record {
    below = h.below;
    rank = h.rank;
    leads = h.leads;
    least = λ v k lt leads.
        elim (cases_lt v i) [
          | inl less ↦ h.least v k less leads
          | inr ge ↦
              let same : i ≡ v = omega arith in
              absurd (no_lead v k (subst (λ (v : ℕ). IsRankAfter rows (successors_of g c v) None) same after) leads)
        ];
    first = h.first;
  }

  pub one_more : (i k : ℕ) (best : Option Row) → i < g.inputs → IsBestBelow g rows c i best → IsRankAfter rows (successors_of g c i) (Some k) → IsBestBelow g rows c (i + 1) (better best (record { rank = k + 1; input = i }))
  one_more i k best li h after = by_best best h
    where
      leads_here : LeadsDownTo g rows c i k
      leads_here = record { enabled = (li, after.0); ranked = after.1; greatest = after.2 }

      as_here : (v m : ℕ) → v < i + 1 → i ≤ v → LeadsDownTo g rows c v m → k ≡ m
      as_here v m lt ge leads =
          let same : v ≡ i = omega arith in
          sym after.2 ∙ (ap (λ (v : ℕ). greatest_rank rows (successors_of g c v)) (sym same) ∙ leads.greatest)

      by_test : (old : Row) → IsBest g rows c i old → (b : Bool) → nat_le old.rank (k + 1) ≡ b → IsBestBelow g rows c (i + 1) (better (Some old) (record { rank = k + 1; input = i }))
      by_test old o true e =
          let le = leb-true old.rank (k + 1) e in
          let rank = o.rank in
          subst (IsBestBelow g rows c (i + 1)) (ap Some (sym (ap (λ (b : Bool). pick b old (record { rank = k + 1; input = i })) e))) (record {
            below = o.below;
            rank = o.rank;
            leads = o.leads;
            least = λ v m lt leads.
                elim (cases_lt v i) [
                  | inl less ↦ o.least v m less leads
                  | inr ge ↦ let same = as_here v m lt ge leads in omega arith
                ];
            first = o.first;
          })
      by_test old o false e =
          let gt = leb-false old.rank (k + 1) e in
          let rank = o.rank in
          subst (IsBestBelow g rows c (i + 1)) (ap Some (sym (ap (λ (b : Bool). pick b old (record { rank = k + 1; input = i })) e))) (record {
            below = k;
            rank = omega arith;
            leads = leads_here;
            least = λ v m lt leads.
                elim (cases_lt v i) [
                  | inl less ↦ let low = o.least v m less leads in omega arith
                  | inr ge ↦ let same = as_here v m lt ge leads in omega arith
                ];
            first = λ v lt leads. let low = o.least v k lt leads in omega arith;
          })

      by_best : (best : Option Row) → IsBestBelow g rows c i best → IsBestBelow g rows c (i + 1) (better best (record { rank = k + 1; input = i }))
      by_best None n = record {
        below = k;
        rank = omega arith;
        leads = leads_here;
        least = λ v m lt leads.
            elim (cases_lt v i) [
              | inl less ↦ let lost = n v less leads.enabled in absurd (lost_lead v m lost.0 lost.1 lost.2 leads)
              | inr ge ↦ let same = as_here v m lt ge leads in omega arith
            ];
        first = λ v lt leads. let lost = n v lt leads.enabled in lost_lead v k lost.0 lost.1 lost.2 leads;
      }
      by_best (Some old) o = by_test old o (nat_le old.rank (k + 1)) refl

  pub best_is_right : (best : Option Row) → IsBestBelow g rows c g.inputs best → IsRightPlain g rows c best
  best_is_right None h = λ v enabled. h v enabled.0 enabled
  best_is_right (Some row) h = subst (λ (k : ℕ). IsRightRanked g rows c k row.input) (sym h.rank) (record {
    leads = h.leads;
    none_further = λ v enabled each.
        let less = less_greatest rows h.below (successors_of g c v) enabled.1 each in
        let low = h.least v (greatest_rank rows (successors_of g c v)) enabled.0 (record { enabled = enabled; ranked = λ j d lt. ((each j d lt).row, (each j d lt).is); greatest = refl }) in
        omega arith;
    none_lesser = h.first;
  })

-- no rank is as great as a bound on all of them
pub greatest_bound : (rows : List (Option Row)) (n : ℕ) (cells : List ℕ) → ((s : ℕ) (row : Row) → row_of rows s ≡ Some row → row.rank < n) → 0 < n → All (HasRow rows) cells → greatest_rank rows cells < n
greatest_bound rows n [] ranks some' h = omega (arith, some')
greatest_bound rows n (s ∷ cells) ranks some' h =
    let first = All-head (HasRow rows) s cells h in
    let rank : rank_at rows s ≡ first.0.rank = ap rank_in first.1 in
    let low = ranks s first.0 first.1 in
    let rest = greatest_bound rows n cells ranks some' (All-tail (HasRow rows) s cells h) in
    omega arith
