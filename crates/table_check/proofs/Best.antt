-- The row of a plain cell is right exactly where its input is the first that leads below its rank, and none leads
-- below the rank before it.
use Rattle.std.proofs.Common.{inl, inr, ◌≡◌, ℕ, zero, suc, ◌+◌, ◌-◌, ◌*◌, ◌<◌, List, Option, arith, sym, subst}
use Rattle.std.proofs.lemmas.Bool.{cases_lt}
use Rattle.std.proofs.lemmas.List.Elements.{All-weaker}
use Rattle.game_core.specs.declared.game.Row.{Row}
use Rattle.game_core.specs.Game.{Game, pair_of, successors_of}
use Rattle.game_core.specs.Solution.{greatest_rank, HasRow, HasRowBelow}
use Rattle.game_core.specs.Right.{LeadsDownTo, IsBestInput, IsRightRanked}
use Rattle.game_core.proofs.Right.{greatest_below, below_greatest}
use Rattle.table_check.specs.inside.Below.{LeadsBelow, NoneLeadsBelow}

module _ (g : Game) (rows : List (Option Row)) (c k u : ℕ) (inside : u < g.inputs) where
  leads_down : LeadsBelow g rows (pair_of g c u) (suc k) → (LeadsBelow g rows (pair_of g c u) k → ⊥) → LeadsDownTo g rows c u k
  leads_down leads no_further =
      let ranked = All-weaker (HasRowBelow rows (suc k)) (HasRow rows) (λ s r. (r.row, r.is)) (successors_of g c u) leads.1 in
      let most = greatest_below rows k (successors_of g c u) leads.1 in
      record {
        enabled = (inside, leads.0);
        ranked = ranked;
        greatest = elim (cases_lt (greatest_rank rows (successors_of g c u)) k) [
          | inl lt ↦ absurd (no_further (leads.0, below_greatest rows k (successors_of g c u) ranked lt))
          | inr ge ↦ omega arith
        ];
      }

  best : LeadsBelow g rows (pair_of g c u) (suc k) → NoneLeadsBelow g rows c 0 u (suc k) → NoneLeadsBelow g rows c u g.inputs k → IsBestInput g rows c u k
  best leads lesser further = record {
    leads = leads_down leads (further u (omega arith) inside);
    none_further = λ v enabled each.
        elim (cases_lt v u) [
          | inl lt ↦ lesser v (omega arith) lt (enabled.1, All-weaker (HasRowBelow rows k) (HasRowBelow rows (suc k)) (λ s r. let below = r.below in record { row = r.row; is = r.is; below = omega arith }) (successors_of g c v) each)
          | inr ge ↦ further v ge enabled.0 (enabled.1, each)
        ];
    none_lesser = λ v lt h. let most = h.greatest in lesser v (omega arith) lt (h.enabled.1, below_greatest rows (suc k) (successors_of g c v) h.ranked (omega arith));
  }

  best_leads : IsBestInput g rows c u k → LeadsBelow g rows (pair_of g c u) (suc k)
  best_leads b = let most = b.leads.greatest in (b.leads.enabled.1, below_greatest rows (suc k) (successors_of g c u) b.leads.ranked (omega arith))

  best_lesser : IsBestInput g rows c u k → NoneLeadsBelow g rows c 0 u (suc k)
  best_lesser b v from lt below =
      let ranked = All-weaker (HasRowBelow rows (suc k)) (HasRow rows) (λ s r. (r.row, r.is)) (successors_of g c v) below.1 in
      let most = greatest_below rows k (successors_of g c v) below.1 in
      elim (cases_lt (greatest_rank rows (successors_of g c v)) k) [
        | inl less ↦ b.none_further v (omega arith, below.0) (below_greatest rows k (successors_of g c v) ranked less)
        | inr full ↦ b.none_lesser v lt (record { enabled = (omega arith, below.0); ranked = ranked; greatest = omega arith })
      ]

  best_further : IsBestInput g rows c u k → NoneLeadsBelow g rows c u g.inputs k
  best_further b v from to below = b.none_further v (to, below.0) below.1

-- what is looked at, where n is the number of inputs
module _ (g : Game) (rows : List (Option Row)) (c u n : ℕ) (inside : u < g.inputs) (count : n ≡ g.inputs) where
  pub right_ranked : (rank : ℕ) → 0 < rank → LeadsBelow g rows (c * n + u) rank → NoneLeadsBelow g rows c 0 u rank → NoneLeadsBelow g rows c u n (rank - 1) → IsRightRanked g rows c rank u
  right_ranked zero some leads lesser further = absurd (omega arith)
  right_ranked (suc k) some leads lesser further =
      let same : suc k - 1 ≡ k = omega arith in
      best g rows c k u inside (subst (λ n. LeadsBelow g rows (c * n + u) (suc k)) count leads) lesser (subst (NoneLeadsBelow g rows c u g.inputs) same (subst (λ n. NoneLeadsBelow g rows c u n (suc k - 1)) count further))

  pub ranked_some : (rank : ℕ) → IsRightRanked g rows c rank u → 0 < rank
  ranked_some zero r = absurd r
  ranked_some (suc k) r = omega arith

  pub ranked_leads : (rank : ℕ) → IsRightRanked g rows c rank u → LeadsBelow g rows (c * n + u) rank
  ranked_leads zero r = absurd r
  ranked_leads (suc k) r = subst (λ n. LeadsBelow g rows (c * n + u) (suc k)) (sym count) (best_leads g rows c k u inside r)

  pub ranked_lesser : (rank : ℕ) → IsRightRanked g rows c rank u → NoneLeadsBelow g rows c 0 u rank
  ranked_lesser zero r = absurd r
  ranked_lesser (suc k) r = best_lesser g rows c k u inside r

  pub ranked_further : (rank : ℕ) → IsRightRanked g rows c rank u → NoneLeadsBelow g rows c u n (rank - 1)
  ranked_further zero r = absurd r
  ranked_further (suc k) r =
      let same : k ≡ suc k - 1 = omega arith in
      subst (λ n. NoneLeadsBelow g rows c u n (suc k - 1)) (sym count) (subst (NoneLeadsBelow g rows c u g.inputs) same (best_further g rows c k u inside r))
