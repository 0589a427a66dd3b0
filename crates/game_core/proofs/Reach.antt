-- Consistent rows are the solution of the reach game.
use Rattle.std.proofs.Common.{◌≡◌, ◌≢◌, ℕ, zero, suc, ◌<◌, ◌≤◌, List, Option, Some, None, All, arith, refl, sym, ap, subst}
use Rattle.game_core.proofs.Rows.{successors_below, plain_from}
use Rattle.game_core.proofs.Trees.{row_for, rank_from_row, same_row}
use Rattle.game_core.specs.declared.game.Mark.TheVariants.{Goal}
use Rattle.game_core.specs.declared.game.Row.{Row}
use Rattle.game_core.specs.Game.{Game, IsGame, mark_of, pair_of, successors_of}
use Rattle.game_core.specs.Strategy.{IsRank}
use Rattle.game_core.specs.Solution.{row_of, HasRowBelow, IsReachRow, IsChosenInput, IsReachSolution}
use Rattle.game_core.specs.inside.Search.{IsSoundRow, IsConsistent}

-- a cell has a rank of at most k
abbrev HasRankWithin : Game → ℕ → ℕ → Type 0
HasRankWithin g k s = (rank : ℕ) × (rank ≤ k) × IsRank g s rank

-- a row below a rank is that rank of its cell, and the other way round
pub ranks_from_rows : (g : Game) (rows : List (Option Row)) → IsGame g → IsConsistent g rows → (c u k : ℕ) → All (HasRowBelow rows (suc k)) (successors_of g c u) → All (HasRankWithin g k) (successors_of g c u)
ranks_from_rows g rows a h c u k each = λ i d lt.
    let r = each i d lt in
    (r.row.rank, omega arith, rank_from_row g rows a h _ r.row (successors_below g a (pair_of g c u) i d lt) r.is)

pub rows_from_ranks : (g : Game) (rows : List (Option Row)) → IsGame g → IsConsistent g rows → (c u k : ℕ) → All (HasRankWithin g k) (successors_of g c u) → All (HasRowBelow rows (suc k)) (successors_of g c u)
rows_from_ranks g rows a h c u k each = λ i d lt.
    let r = each i d lt in
    let t = r.2.reached in
    let row = row_for g rows a h t.0 _ (successors_below g a (pair_of g c u) i d lt) t.1 in
    record { row = row.row; is = row.is; below = omega arith }

-- a sound row's input is the chosen one
pub chosen_from_row : (g : Game) (rows : List (Option Row)) → IsGame g → IsConsistent g rows → (c k u : ℕ) → c < g.cells → row_of rows c ≡ Some (record { rank = k; input = u }) → IsSoundRow g rows c k u → IsChosenInput g c k u
chosen_from_row g rows a h c zero u lt e s = s.1
chosen_from_row g rows a h c (suc k) u lt e s = (
  (s.1, ranks_from_rows g rows a h c u k s.2),
  λ v leads.
      let goal : mark_of g c ≢ Goal = (λ m. let r : row_of rows c ≡ Some (record { rank = 0; input = 0 }) = h.goals c lt m in let z : suc k ≡ 0 = ap (λ (x : Row). x.rank) (same_row rows c (record { rank = suc k; input = u }) (record { rank = 0; input = 0 }) e r) in omega arith) in
      let best = h.best c v (suc k) (plain_from (mark_of g c) goal s.0) leads.0 (rows_from_ranks g rows a h c v k leads.1) in
      let same = same_row rows c (record { rank = suc k; input = u }) best.row e best.is in
      subst (λ (row : Row). row.rank ≡ suc k → row.input ≤ v) (sym same) best.least refl,
)

-- consistent rows are the solution
pub solution_from_consistent : (g : Game) (rows : List (Option Row)) → IsGame g → IsConsistent g rows → IsReachSolution g rows
solution_from_consistent g rows a h = record {
  one_each = h.one_each;
  each = λ c lt. reach_row c lt (row_of rows c) refl;
}
  where
    reach_row : (c : ℕ) → c < g.cells → (r : Option Row) → row_of rows c ≡ r → IsReachRow g c r
    reach_row c lt None e = λ t w. let r = row_for g rows a h t c lt w in let is = r.is in cc
    reach_row c lt (Some row) e = (rank_from_row g rows a h c row lt e, chosen_from_row g rows a h c row.rank row.input lt e (h.sound c row e))
