-- A row that is right beside the rows of a reach solution, also at a goal, is that of the strategies which begin with an input.
use Rattle.std.proofs.Common.{inl, inr, ◌≡◌, ◌≢◌, ℕ, zero, suc, ◌<◌, ◌≤◌, max, List, [], ◌∷◌, get_or, Option, Some, None, All, arith, refl, sym, subst}
use Rattle.std.proofs.lemmas.Bool.{cases_lt}
use Rattle.std.proofs.lemmas.List.Elements.{All-head, All-tail, All-nil, All-cons, All-weaker, All-contains}
use Rattle.game_core.specs.declared.game.Mark.TheVariants.{Goal, Obstacle}
use Rattle.game_core.specs.declared.game.Row.{Row}
use Rattle.game_core.specs.Game.{Game, IsGame, mark_of, pair_of, successors_of}
use Rattle.game_core.specs.Strategy.{Tree, Apply, Trees, NoTrees, AndTree, Wins, WinEach, depth_of, greatest_depth}
use Rattle.game_core.specs.Solution.{row_of, greatest_rank, HasRowBelow, IsReachRow, IsReachSolution}
use Rattle.game_core.specs.Right.{IsBestInput, IsUnwinnable, IsRightPlain, IsRightRanked}
use Rattle.temporal_games.specs.Visits.{ReachesLater}
use Rattle.temporal_games.specs.Patrol.{IsReachedLaterBy, IsLaterReachRow}
use Rattle.game_core.proofs.Rows.{successors_below}
use Rattle.game_core.proofs.Trees.{WinsWithin, trees_for}
use Rattle.game_core.proofs.Right.{below_greatest, greatest_below, have_rows}

module _ (g : Game) (a : IsGame g) (rows : List (Option Row)) (h : IsReachSolution g rows) where
  -- a cell from which a tree wins has a row that is no greater than its depth
  row_for : (t : Tree) (c : ℕ) → c < g.cells → Wins g t c → HasRowBelow rows (suc (depth_of t)) c
  row_for t c lt w = by_row (row_of rows c) refl (h.each c lt)
    where
      by_row : (o : Option Row) → row_of rows c ≡ o → IsReachRow g c o → HasRowBelow rows (suc (depth_of t)) c
      by_row None e none = absurd (none t w)
      by_row (Some row) e is = let le = is.0.least t w in record { row = row; is = e; below = omega (arith, le) }

  rows_for : (ts : Trees) (cells : List ℕ) → All (λ s. s < g.cells) cells → WinEach g ts cells → All (HasRowBelow rows (suc (greatest_depth ts))) cells
  rows_for NoTrees cells lt w = subst (All (HasRowBelow rows 1)) (sym w) (All-nil (HasRowBelow rows 1))
  rows_for (AndTree t rest) [] lt w = absurd w
  rows_for (AndTree t rest) (c ∷ cells) lt w =
      let k = suc (max (depth_of t) (greatest_depth rest)) in
      let first = row_for t c (All-head (λ s. s < g.cells) c cells lt) w.0 in
      let others = rows_for rest cells (All-tail (λ s. s < g.cells) c cells lt) w.1 in
      All-cons (HasRowBelow rows k) c cells
      (let b = first.below in record { row = first.row; is = first.is; below = omega arith })
      (All-weaker (HasRowBelow rows (suc (greatest_depth rest))) (HasRowBelow rows k) (λ s r. let b = r.below in record { row = r.row; is = r.is; below = omega arith }) cells others)

  rows_after : (v : ℕ) (next : Trees) (c : ℕ) → Wins g (Apply v next) c → All (HasRowBelow rows (suc (greatest_depth next))) (successors_of g c v)
  rows_after v next c w = rows_for next (successors_of g c v) (successors_below g a (pair_of g c v)) w.2

  -- a cell with a row of rank at most k has a tree of depth at most k
  tree_for : (k s : ℕ) → s < g.cells → HasRowBelow rows (suc k) s → WinsWithin g k s
  tree_for k s lt b =
      let rank = (subst (IsReachRow g s) b.is (h.each s lt)).0 in
      let below = b.below in
      let deep = rank.reached.2 in
      record { tree = rank.reached.0; wins = rank.reached.1; depth = omega (arith, below, deep) }

  lower_rows : (j k : ℕ) (cells : List ℕ) → j ≤ k → All (HasRowBelow rows j) cells → All (HasRowBelow rows k) cells
  lower_rows j k cells le = All-weaker (HasRowBelow rows j) (HasRowBelow rows k) (λ s r. let b = r.below in record { row = r.row; is = r.is; below = omega (arith, le, b) }) cells

  module _ (c : ℕ) (clear : mark_of g c ≢ Obstacle) where
    reached_later : (k u : ℕ) → IsBestInput g rows c u k → IsReachedLaterBy (λ s. mark_of g s ≡ Goal) g c (record { rank = suc k; input = u })
    reached_later k u best =
        let full = best.leads.greatest in
        let below = below_greatest rows (suc k) (successors_of g c u) best.leads.ranked (omega (arith, full)) in
        let each : All (WinsWithin g k) (successors_of g c u) =
        λ i d li. tree_for k (get_or (successors_of g c u) i d) (successors_below g a (pair_of g c u) i d li) (below i d li) in
        let trees = trees_for g k (successors_of g c u) each in
        let deep = trees.depth in
        let wins : Wins g (Apply u trees.trees) c = (clear, best.leads.enabled, trees.wins) in
        let ge = least u trees.trees wins in
        record { reached = (trees.trees, wins, omega (arith, deep, ge)); least = least; first = first }
      where
        least : (v : ℕ) (next : Trees) → Wins g (Apply v next) c → suc k ≤ depth_of (Apply v next)
        least v next w =
            elim (cases_lt (greatest_depth next) k) [
              | inr ge ↦ omega (arith, ge)
              | inl less ↦ absurd (best.none_further v w.1 (lower_rows (suc (greatest_depth next)) k (successors_of g c v) less (rows_after v next c w)))
            ]

        first : (v : ℕ) (next : Trees) → Wins g (Apply v next) c → depth_of (Apply v next) ≡ suc k → u ≤ v
        first v next w e =
            let up : All (HasRowBelow rows (suc k)) (successors_of g c v) = lower_rows (suc (greatest_depth next)) (suc k) (successors_of g c v) (omega (arith, e)) (rows_after v next c w) in
            let ranked = have_rows rows (suc k) (successors_of g c v) up in
            let most = greatest_below rows k (successors_of g c v) up in
            elim (cases_lt v u) [
              | inr ge ↦ ge
              | inl lt ↦
                  elim (cases_lt (greatest_rank rows (successors_of g c v)) k) [
                    | inl less ↦ absurd (best.none_further v w.1 (below_greatest rows k (successors_of g c v) ranked less))
                    | inr full ↦ absurd (best.none_lesser v lt (record { enabled = w.1; ranked = ranked; greatest = omega (arith, most, full) }))
                  ]
            ]

    lost : IsUnwinnable g rows c → ReachesLater (λ s. mark_of g s ≡ Goal) g c → ⊥
    lost none t =
        let gone = none t.0 t.2.1 in
        let has = All-contains (HasRowBelow rows (suc (greatest_depth t.1))) (successors_of g c t.0) gone.0 (rows_after t.0 t.1 c t.2) gone.1 in
        let is = has.is in
        let rowless = gone.2 in
        cc

    by_rank : (k u : ℕ) → IsRightRanked g rows c k u → IsReachedLaterBy (λ s. mark_of g s ≡ Goal) g c (record { rank = k; input = u })
    by_rank zero u r = absurd r
    by_rank (suc k) u r = reached_later k u r

    pub later_reach_row : (o : Option Row) → IsRightPlain g rows c o → IsLaterReachRow (λ s. mark_of g s ≡ Goal) g c o
    later_reach_row None r = lost r
    later_reach_row (Some row) r = by_rank row.rank row.input r
