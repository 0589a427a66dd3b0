-- What solutions of the reach game promise, and that a game has one.
use Rattle.std.proofs.Common.{◌≡◌, ◌≢◌, ℕ, zero, suc, ◌<◌, ◌≤◌, List, Option, Some, None, arith, refl, sym, ◌∙◌, ap₂, subst, ext_get_or, le_antisymm}
use Rattle.game_core.proofs.Rows.{successors_below, below_from_row}
use Rattle.game_core.specs.declared.game.Mark.TheVariants.{Goal, Obstacle}
use Rattle.game_core.specs.declared.game.Row.{Row}
use Rattle.game_core.specs.Game.{Game, IsGame, mark_of, pair_of}
use Rattle.game_core.specs.Strategy.{Tree, Leaf, Apply, Wins, depth_of, IsRank}
use Rattle.game_core.specs.Solution.{row_of, HasRowBelow, IsReachRow, IsChosenInput, IsReachSolution, LeadsToGoals}

-- a cell has one rank
pub same_rank : (g : Game) (c j k : ℕ) → IsRank g c j → IsRank g c k → j ≡ k
same_rank g c j k a b =
    omega (arith, a.reached, b.reached)

-- the row of a cell is that of the solution
pub row_at : (g : Game) (rows : List (Option Row)) → IsReachSolution g rows → (c : ℕ) (row : Row) → row_of rows c ≡ Some row → IsReachRow g c (Some row)
row_at g rows h c row e =
    let lt = below_from_row rows c row e in
    subst (IsReachRow g c) e (h.each c (omega arith))

-- a tree of depth 0 wins from goals alone
pub goal_from_leaf : (g : Game) (c : ℕ) (t : Tree) → Wins g t c → depth_of t ≡ 0 → mark_of g c ≡ Goal
goal_from_leaf g c Leaf w e = w
goal_from_leaf g c (Apply u next) w e = absurd (omega arith)

-- no strategy wins from an obstacle
pub no_obstacle : (g : Game) (c : ℕ) (t : Tree) → Wins g t c → mark_of g c ≢ Obstacle
no_obstacle g c Leaf w e = cc
no_obstacle g c (Apply u next) w e = w.0 e

-- a cell with a rank has a row of that rank
row_from_rank : (g : Game) (rows : List (Option Row)) → IsReachSolution g rows → (s k rank : ℕ) → s < g.cells → rank ≤ k → IsRank g s rank → HasRowBelow rows (suc k) s
row_from_rank g rows h s k rank lt le r = by_row (row_of rows s) refl (h.each s lt)
  where
    by_row : (o : Option Row) → row_of rows s ≡ o → IsReachRow g s o → HasRowBelow rows (suc k) s
    by_row None e n = let t = r.reached in absurd (n t.0 t.1)
    by_row (Some row) e n = let same = same_rank g s row.rank rank n.0 r in record { row = row; is = e; below = omega arith }

pub leads_to_goals : (g : Game) (rows : List (Option Row)) → IsGame g → IsReachSolution g rows → LeadsToGoals g rows
leads_to_goals g rows a h = record {
  arrived = λ c u e. let t = (row_at g rows h c _ e).0.reached in goal_from_leaf g c t.0 t.1 t.2;
  descends = λ c k u e.
      let leads = (row_at g rows h c _ e).1.0 in
      (leads.0, λ i d lt. let r = leads.1 i d lt in row_from_rank g rows h _ k r.0 (successors_below g a (pair_of g c u) i d lt) r.1 r.2);
  clear = λ c m. no_row c m (row_of rows c) refl;
}
  where
    no_row : (c : ℕ) → mark_of g c ≡ Obstacle → (o : Option Row) → row_of rows c ≡ o → o ≡ None
    no_row c m None e = refl
    no_row c m (Some row) e = let t = (row_at g rows h c row e).0.reached in absurd (no_obstacle g c t.0 t.1 m)

-- two chosen inputs of one cell are the same
same_input : (g : Game) (c k u v : ℕ) → IsChosenInput g c k u → IsChosenInput g c k v → u ≡ v
same_input g c zero u v a b = a ∙ sym b
same_input g c (suc k) u v a b = le_antisymm (a.1 v b.0) (b.1 u a.0)

abbrev some_row : ℕ → ℕ → Option Row
some_row k u = Some (record { rank = k; input = u })

same_reach_row : (g : Game) (c : ℕ) (a b : Option Row) → IsReachRow g c a → IsReachRow g c b → a ≡ b
same_reach_row g c None None a b = refl
same_reach_row g c None (Some row) a b = let t = b.0.reached in absurd (a t.0 t.1)
same_reach_row g c (Some row) None a b = let t = a.0.reached in absurd (b t.0 t.1)
same_reach_row g c (Some p) (Some q) a b =
    let ranks : p.rank ≡ q.rank = same_rank g c p.rank q.rank a.0 b.0 in
    let inputs : p.input ≡ q.input = same_input g c q.rank p.input q.input (subst (λ k. IsChosenInput g c k p.input) ranks a.1) b.1 in
    ap₂ some_row ranks inputs

pub one_solution : (g : Game) (first second : List (Option Row)) → IsReachSolution g first → IsReachSolution g second → first ≡ second
one_solution g first second a b =
    ext_get_or None first second (omega arith) (λ c lt. same_reach_row g c (row_of first c) (row_of second c) (a.each c (omega arith)) (b.each c (omega arith)))
