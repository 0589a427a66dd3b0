-- Rows all of whose cells are right are the solution of the reach game, and the other way round.
use Rattle.std.proofs.Common.{inl, inr, ◌≡◌, ◌⊎◌, ℕ, zero, suc, ◌<◌, ◌≤◌, List, [], ◌∷◌, length, Option, Some, None, All, Contains, arith, refl, sym, ◌∙◌, ap, ap₂, subst}
use Rattle.std.proofs.lemmas.Bool.{cases_lt}
use Rattle.std.proofs.lemmas.List.Elements.{All-head, All-tail, All-nil, All-cons, All-weaker, All-contains}
use Rattle.game_core.specs.declared.game.Mark.{Mark}
use Rattle.game_core.specs.declared.game.Mark.TheVariants.{Goal, Obstacle, Plain}
use Rattle.game_core.specs.declared.game.Row.{Row}
use Rattle.game_core.specs.Game.{Game, IsGame, IsEnabled, mark_of, successors_of}
use Rattle.game_core.specs.Strategy.{Tree, Leaf, Apply, Wins, IsRank}
use Rattle.game_core.specs.Solution.{row_of, rank_in, rank_at, greatest_rank, HasRow, HasRowBelow, IsReachRow, IsChosenInput, IsReachSolution}
use Rattle.game_core.specs.Right.{IsUnwinnable, IsRightAt, IsRightPlain, IsRightRanked, AreRight}
use Rattle.game_core.specs.inside.Search.{IsSoundRow, IsGoalRow, HasRowAtMost}
use Rattle.game_core.proofs.Rows.{below_from_row, enabled_below}
use Rattle.game_core.proofs.Trees.{WinsWithin, trees_for}
use Rattle.game_core.proofs.Reach.{solution_from_consistent}
use Rattle.game_core.proofs.Promises.{leads_to_goals, row_at, goal_from_leaf}
use Rattle.game_core.proofs.RankBound.{not_all_less}

-- cells with rows of ranks below k, and the greatest of these ranks
rank_of_row : (rows : List (Option Row)) (c : ℕ) (row : Row) → row_of rows c ≡ Some row → rank_at rows c ≡ row.rank
rank_of_row rows c row e = ap rank_in e

pub have_rows : (rows : List (Option Row)) (k : ℕ) (cells : List ℕ) → All (HasRowBelow rows k) cells → All (HasRow rows) cells
have_rows rows k cells = All-weaker (HasRowBelow rows k) (HasRow rows) (λ s r. (r.row, r.is)) cells

pub greatest_below : (rows : List (Option Row)) (k : ℕ) (cells : List ℕ) → All (HasRowBelow rows (suc k)) cells → greatest_rank rows cells ≤ k
greatest_below rows k [] h = omega arith
greatest_below rows k (s ∷ cells) h =
    let first = All-head (HasRowBelow rows (suc k)) s cells h in
    let rank = rank_of_row rows s first.row first.is in
    let rest = greatest_below rows k cells (All-tail (HasRowBelow rows (suc k)) s cells h) in
    omega arith

pub below_greatest : (rows : List (Option Row)) (k : ℕ) (cells : List ℕ) → All (HasRow rows) cells → greatest_rank rows cells < k → All (HasRowBelow rows k) cells
below_greatest rows k [] h lt = All-nil (HasRowBelow rows k)
below_greatest rows k (s ∷ cells) h lt =
    let first = All-head (HasRow rows) s cells h in
    let rank = rank_of_row rows s first.0 first.1 in
    All-cons (HasRowBelow rows k) s cells (record { row = first.0; is = first.1; below = omega arith })
    (below_greatest rows k cells (All-tail (HasRow rows) s cells h) (omega arith))

module _ (g : Game) (rows : List (Option Row)) (a : IsGame g) (h : AreRight g rows) where
  right_goal : (c : ℕ) → c < g.cells → mark_of g c ≡ Goal → IsGoalRow rows c
  right_goal c lt m = subst (λ m. IsRightAt g rows c m (row_of rows c)) m (h.each c lt)

  right_sound : (c : ℕ) (row : Row) → row_of rows c ≡ Some row → IsSoundRow g rows c row.rank row.input
  right_sound c row e = by_mark (mark_of g c) refl (subst (IsRightAt g rows c (mark_of g c)) e (h.each c (let lt = below_from_row rows c row e in let n = h.one_each in omega arith)))
    where
      by_rank : (k u : ℕ) → mark_of g c ≡ Plain → IsRightRanked g rows c k u → IsSoundRow g rows c k u
      by_rank zero u m r = absurd r
      by_rank (suc k) u m r =
          (λ o. cc, r.leads.enabled, below_greatest rows (suc k) (successors_of g c u) r.leads.ranked (omega arith))

      goal_row : (row : Row) → Some row ≡ Some (record { rank = 0; input = 0 }) → mark_of g c ≡ Goal → IsSoundRow g rows c row.rank row.input
      goal_row row e' m = let same : record { rank = 0; input = 0 } ≡ row = cc in subst (λ (row : Row). IsSoundRow g rows c row.rank row.input) same (m, refl)

      by_mark : (m : Mark) → mark_of g c ≡ m → IsRightAt g rows c m (Some row) → IsSoundRow g rows c row.rank row.input
      by_mark Obstacle m r = absurd (cc)
      by_mark Goal m r = goal_row row r m
      by_mark Plain m r = by_rank row.rank row.input m r

  right_best : (c v m : ℕ) → mark_of g c ≡ Plain → IsEnabled g c v → All (HasRowBelow rows m) (successors_of g c v) → HasRowAtMost rows m v c
  right_best c v m plain enabled each = by_row (row_of rows c) refl (subst (λ m. IsRightAt g rows c m (row_of rows c)) plain (h.each c (enabled_below g a c v enabled)))
    where
      by_rank : (row : Row) (k : ℕ) → row.rank ≡ k → row_of rows c ≡ Some row → IsRightRanked g rows c k row.input → HasRowAtMost rows m v c
      by_rank row zero e is r = absurd r
      by_rank row (suc k) e is r = record {
        row = row;
        is = is;
        within = elim (cases_lt k m) [
          | inl lt ↦ omega arith
          | inr ge ↦ absurd (r.none_further v enabled (All-weaker (HasRowBelow rows m) (HasRowBelow rows k) (λ s b. let lt = b.below in record { row = b.row; is = b.is; below = omega arith }) (successors_of g c v) each))
        ];
        least = λ same.
            elim (cases_lt v row.input) [
              | inr ge ↦ ge
              | inl lt ↦
                  let up : All (HasRowBelow rows (suc k)) (successors_of g c v) = subst (λ n. All (HasRowBelow rows n) (successors_of g c v)) (sym same ∙ e) each in
                  let ranked = have_rows rows (suc k) (successors_of g c v) up in
                  let most = greatest_below rows k (successors_of g c v) up in
                  elim (cases_lt (greatest_rank rows (successors_of g c v)) k) [
                    | inl less ↦ absurd (r.none_further v enabled (below_greatest rows k (successors_of g c v) ranked less))
                    | inr full ↦ absurd (r.none_lesser v lt (record { enabled = enabled; ranked = ranked; greatest = omega arith }))
                  ]
            ];
      }

      by_row : (o : Option Row) → row_of rows c ≡ o → IsRightPlain g rows c o → HasRowAtMost rows m v c
      by_row None e r =
          let lost = r v enabled in
          let has = All-contains (HasRowBelow rows m) (successors_of g c v) lost.0 each lost.1 in
          absurd (cc)
      by_row (Some row) e r = by_rank row row.rank refl e r

  pub right_rows_are_the_solution : IsReachSolution g rows
  right_rows_are_the_solution = solution_from_consistent g rows a (record { one_each = h.one_each; goals = right_goal; sound = right_sound; best = right_best })

-- all cells have rows, or one has none
pub rowless : (rows : List (Option Row)) (cells : List ℕ) → All (HasRow rows) cells ⊎ ((s : ℕ) × Contains cells s × (row_of rows s ≡ None))
rowless rows [] = inl (All-nil (HasRow rows))
rowless rows (s ∷ cells) = by_row (row_of rows s) refl (rowless rows cells)
  where
    by_row : (o : Option Row) → row_of rows s ≡ o → All (HasRow rows) cells ⊎ ((s : ℕ) × Contains cells s × (row_of rows s ≡ None)) → All (HasRow rows) (s ∷ cells) ⊎ ((t : ℕ) × Contains (s ∷ cells) t × (row_of rows t ≡ None))
    by_row None e rest = inr (s, (0, omega arith, refl), e)
    by_row (Some row) e (inl rest) = inl (All-cons (HasRow rows) s cells (row, e) rest)
    by_row (Some row) e (inr found) = let at = found.1 in inr (found.0, (suc at.0, (let lt = at.1 in omega arith), at.2), found.2)

-- rows are right that are right at goals, at obstacles, and at plain cells without a row and with one
pub right_from : (g : Game) (rows : List (Option Row)) → length rows ≡ g.cells
    → ((c : ℕ) → c < g.cells → mark_of g c ≡ Goal → row_of rows c ≡ Some (record { rank = 0; input = 0 }))
    → ((c : ℕ) → c < g.cells → mark_of g c ≡ Obstacle → row_of rows c ≡ None)
    → ((c : ℕ) → c < g.cells → mark_of g c ≡ Plain → row_of rows c ≡ None → IsUnwinnable g rows c)
    → ((c : ℕ) (row : Row) → c < g.cells → mark_of g c ≡ Plain → row_of rows c ≡ Some row → IsRightRanked g rows c row.rank row.input)
    → AreRight g rows
right_from g rows one_each goal obstacle lost ranked = record {
  one_each = one_each;
  each = λ c lt. by_mark c lt (mark_of g c) refl;
}
  where
    by_row : (c : ℕ) → c < g.cells → mark_of g c ≡ Plain → (o : Option Row) → row_of rows c ≡ o → IsRightPlain g rows c o
    by_row c lt m None e = lost c lt m e
    by_row c lt m (Some row) e = ranked c row lt m e

    by_mark : (c : ℕ) → c < g.cells → (m : Mark) → mark_of g c ≡ m → IsRightAt g rows c m (row_of rows c)
    by_mark c lt Goal m = goal c lt m
    by_mark c lt Obstacle m = obstacle c lt m
    by_mark c lt Plain m = by_row c lt m (row_of rows c) refl

module _ (g : Game) (rows : List (Option Row)) (a : IsGame g) (h : IsReachSolution g rows) where
  -- a cell with a row of a rank below k has a tree of that depth
  tree_below : (k s : ℕ) → HasRowBelow rows (suc k) s → WinsWithin g k s
  tree_below k s b =
      let rank = (row_at g rows h s b.row b.is).0 in
      record { tree = rank.reached.0; wins = rank.reached.1; depth = omega arith }

  solved_goal : (c : ℕ) → mark_of g c ≡ Goal → (o : Option Row) → row_of rows c ≡ o → IsReachRow g c o → o ≡ Some (record { rank = 0; input = 0 })
  solved_goal c m None e r = absurd (r Leaf m)
  solved_goal c m (Some row) e r =
      let least = r.0.least Leaf m in
      let rank : row.rank ≡ 0 = omega arith in
      let input : row.input ≡ 0 = subst (λ k. IsChosenInput g c k row.input) rank r.1 in
      ap₂ (λ k u. Some (record { rank = k; input = u })) rank input

  lost : (c : ℕ) → c < g.cells → mark_of g c ≡ Plain → ((t : Tree) → Wins g t c → ⊥) → IsUnwinnable g rows c
  lost c lt m none v enabled =
      elim (rowless rows (successors_of g c v)) [
        | inr found ↦ found
        | inl all ↦
            let k = greatest_rank rows (successors_of g c v) in
            let below = below_greatest rows (suc k) (successors_of g c v) all (omega arith) in
            let trees = trees_for g k (successors_of g c v) (All-weaker (HasRowBelow rows (suc k)) (WinsWithin g k) (tree_below k) (successors_of g c v) below) in
            absurd (none (Apply v trees.trees) (λ o. cc, enabled, trees.wins))
      ]

  best : (c k u : ℕ) → mark_of g c ≡ Plain → row_of rows c ≡ Some (record { rank = k; input = u }) → IsRank g c k → IsChosenInput g c k u → IsRightRanked g rows c k u
  best c zero u m e r chosen = let t = r.reached in let goal = goal_from_leaf g c t.0 t.1 t.2 in absurd (cc)
  best c (suc k) u m e r chosen =
      let led = (leads_to_goals g rows a h).descends c k u e in
      record {
        leads = record {
          enabled = led.0;
          ranked = have_rows rows (suc k) (successors_of g c u) led.1;
          greatest = full u led.0 led.1;
        };
        none_further = λ v enabled less. not_all_less g rows h c k v r enabled less;
        none_lesser = λ v lt leads.
            let le = chosen.1 v (leads.enabled, ranks v (below_greatest rows (suc k) (successors_of g c v) leads.ranked (omega arith))) in
            omega arith;
      }
    where
      full : (v : ℕ) → IsEnabled g c v → All (HasRowBelow rows (suc k)) (successors_of g c v) → greatest_rank rows (successors_of g c v) ≡ k
      full v enabled each =
          let most = greatest_below rows k (successors_of g c v) each in
          elim (cases_lt (greatest_rank rows (successors_of g c v)) k) [
            | inl less ↦ absurd (not_all_less g rows h c k v r enabled (below_greatest rows k (successors_of g c v) (have_rows rows (suc k) (successors_of g c v) each) less))
            | inr ge ↦ omega arith
          ]

      ranks : (v : ℕ) → All (HasRowBelow rows (suc k)) (successors_of g c v) → All (λ s. (rank : ℕ) × (rank ≤ k) × IsRank g s rank) (successors_of g c v)
      ranks v each = λ i d li. let b = each i d li in let below = b.below in (b.row.rank, omega arith, (row_at g rows h _ b.row b.is).0)

  pub solutions_are_right : AreRight g rows
  solutions_are_right =
      right_from g rows h.one_each (λ c lt m. solved_goal c m (row_of rows c) refl (h.each c lt)) (λ c lt m. (leads_to_goals g rows a h).clear c m)
      (λ c lt m e. lost c lt m (subst (IsReachRow g c) e (h.each c lt)))
      (λ c row lt m e. let r = subst (IsReachRow g c) e (h.each c lt) in best c row.rank row.input m e r.0 r.1)
