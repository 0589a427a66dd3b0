-- The rows stay right as one successor more is cut and a cell gets a better row.
use Rattle.std.proofs.Common.{inl, inr, ◌≡◌, ◌≢◌, ℕ, zero, suc, ◌<◌, ◌≤◌, Bool, true, List, length, get_or, Option, Some, All, Contains, arith, refl, sym, ◌∙◌, ap, subst}
use Rattle.std.proofs.lemmas.Bool.{cases_eq}
use Rattle.std.proofs.lemmas.List.Elements.{Contains-get_or, All-contains, All-weaker}
use Rattle.game_core.proofs.Edges.{with_edge, edge_cases, edge_other_pair, pair_below}
use Rattle.game_core.specs.declared.game.Mark.TheVariants.{Goal, Plain}
use Rattle.game_core.specs.declared.game.Row.{Row}
use Rattle.game_core.specs.Game.{Game, IsEnabled, mark_of, pair_of, pairs_of, successors_at, successors_of}
use Rattle.game_core.specs.Solution.{row_of, HasRowBelow}
use Rattle.game_core.specs.inside.Search.{HasRowAtMost, IsSoundRow, IsGoalRow, IsTold}

-- what became of a row: its rank stays and its input doesn't rise
pub record Became (rows : List (Option Row)) (s rank input : ℕ) : Type 0 where
  pub row : Row
  pub is : row_of rows s ≡ Some row
  pub rank_stays : row.rank ≡ rank
  pub input_falls : row.input ≤ input

-- each row is there still, or a better one
pub record Refines (rows new : List (Option Row)) : Type 0 where
  pub each : (s : ℕ) (row : Row) → row_of rows s ≡ Some row → Became new s row.rank row.input

pub refines_itself : (rows : List (Option Row)) → Refines rows rows
refines_itself rows = record { each = λ s row e. record { row = row; is = e; rank_stays = refl; input_falls = omega arith } }

pub below_after : (rows new : List (Option Row)) → Refines rows new → (k s : ℕ) → HasRowBelow rows k s → HasRowBelow new k s
below_after rows new f k s r =
    let b = f.each s r.row r.is in
    record { row = b.row; is = b.is; below = omega arith }

pub at_most_after : (rows new : List (Option Row)) → Refines rows new → (m v c : ℕ) → HasRowAtMost rows m v c → HasRowAtMost new m v c
at_most_after rows new f m v c r =
    let b = f.each c r.row r.is in
    let within = r.within in
    let least = r.least in
    record { row = b.row; is = b.is; within = omega arith; least = λ e. let l = least (omega arith) in omega arith }

-- a row that was there before is as low as it is now
pub below_before : (rows new : List (Option Row)) → Refines rows new → (m s : ℕ) (row : Row) → row_of rows s ≡ Some row → HasRowBelow new m s → HasRowBelow rows m s
below_before rows new f m s row e r =
    let b = f.each s row e in
    let same : b.row ≡ r.row = (let p = b.is in let q = r.is in cc) in
    let ranks : b.row.rank ≡ r.row.rank = ap (λ x. x.rank) same in
    record { row = row; is = e; below = omega arith }

pub sound_after : (g : Game) (rows new : List (Option Row)) → Refines rows new → (c k u : ℕ) → IsSoundRow g rows c k u → IsSoundRow g new c k u
sound_after g rows new f c zero u s = s
sound_after g rows new f c (suc k) u s = (s.0, s.1, All-weaker (HasRowBelow rows (suc k)) (HasRowBelow new (suc k)) (λ t r. below_after rows new f (suc k) t r) (successors_of g c u) s.2)

module _ (g : Game) (cut : ℕ → ℕ → Bool) (top : ℕ) (rows new : List (Option Row)) (h : IsTold g cut top rows) (f : Refines rows new) (size : length new ≡ length rows) where
  module _ (goals : (c : ℕ) → c < g.cells → mark_of g c ≡ Goal → IsGoalRow new c) (sound : (c : ℕ) (row : Row) → row_of new c ≡ Some row → IsSoundRow g new c row.rank row.input) (pair c : ℕ) (lt : pair < pairs_of g) (leads : Contains (successors_at g pair) c) (row : Row) (has : row_of rows c ≡ Some row) (rank : suc row.rank ≡ top) where
    module _ (newly : (d v : ℕ) → d < g.cells → pair_of g d v ≡ pair → mark_of g d ≡ Plain → IsEnabled g d v → All (λ s. with_edge cut pair c pair s ≡ true) (successors_at g pair) → HasRowAtMost new top v d) where
      lower_then : (q s : ℕ) → q < pairs_of g → Contains (successors_at g q) s → with_edge cut pair c q s ≡ true → HasRowBelow new top s
      lower_then q s lq ls e =
          elim (edge_cases cut pair c q s e) [
            | inl was ↦ below_after rows new f top s (h.lower q s lq ls was)
            | inr now ↦ below_after rows new f top s (record { row = row; is = ap (row_of rows) now.1 ∙ has; below = omega arith })
          ]

      best_here : (d v m : ℕ) → d < g.cells → pair_of g d v ≡ pair → mark_of g d ≡ Plain → IsEnabled g d v → All (λ s. with_edge cut pair c (pair_of g d v) s ≡ true) (successors_of g d v) → All (HasRowBelow new m) (successors_of g d v) → HasRowAtMost new m v d
      best_here d v m ld e plain enabled all each =
          let r = newly d v ld e plain enabled (subst (λ q. All (λ s. with_edge cut pair c q s ≡ true) (successors_at g q)) e all) in
          let low = below_before rows new f m c row has (All-contains (HasRowBelow new m) (successors_at g (pair_of g d v)) c each (subst (λ q. Contains (successors_at g q) c) (sym e) leads)) in
          let same : low.row ≡ row = (let p = low.is in cc) in
          let ranks : low.row.rank ≡ row.rank = ap (λ x. x.rank) same in
          let within = r.within in
          let least = r.least in
          record { row = r.row; is = r.is; within = omega arith; least = λ k. least (omega arith) }

      best_there : (d v m : ℕ) → d < g.cells → pair_of g d v ≢ pair → mark_of g d ≡ Plain → IsEnabled g d v → All (λ s. with_edge cut pair c (pair_of g d v) s ≡ true) (successors_of g d v) → All (HasRowBelow new m) (successors_of g d v) → HasRowAtMost new m v d
      best_there d v m ld ne plain enabled all each =
          let q = pair_of g d v in
          let was : All (λ s. cut q s ≡ true) (successors_of g d v) = (λ i e li. sym (edge_other_pair cut pair c q (get_or (successors_at g q) i e) ne) ∙ all i e li) in
          let before : All (HasRowBelow rows m) (successors_of g d v) = (λ i e li.
          let low = h.lower q (get_or (successors_at g q) i e) (pair_below g d v ld enabled.0) (Contains-get_or (successors_at g q) i e li) (was i e li) in
          below_before rows new f m (get_or (successors_at g q) i e) low.row low.is (each i e li)) in
          at_most_after rows new f m v d (h.best d v m ld plain enabled was before)

      pub told_step : IsTold g (with_edge cut pair c) top new
      told_step = record {
        one_each = size ∙ h.one_each;
        goals = goals;
        lower = lower_then;
        sound = sound;
        best = λ d v m ld plain enabled all each.
            elim (cases_eq (pair_of g d v) pair) [
              | inl e ↦ best_here d v m ld e plain enabled all each
              | inr ne ↦ best_there d v m ld ne plain enabled all each
            ];
      }
