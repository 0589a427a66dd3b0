-- Strategies are built of consistent rows, and no strategy wins sooner than the row says.
use Rattle.std.proofs.Common.{inl, inr, ◌≡◌, ℕ, zero, suc, ◌<◌, ◌≤◌, max, List, [], ◌∷◌, Option, Some, All, arith, refl, sym, ap, subst}
use Rattle.std.proofs.lemmas.List.Elements.{All-head, All-tail, All-nil, All-cons, All-weaker}
use Rattle.game_core.specs.declared.game.Row.{Row}
use Rattle.game_core.specs.Game.{Game, IsGame, mark_of, pair_of, successors_of}
use Rattle.game_core.specs.Strategy.{Tree, Leaf, Apply, Trees, NoTrees, AndTree, Wins, WinEach, depth_of, greatest_depth, IsRank}
use Rattle.game_core.specs.Solution.{row_of, HasRowBelow}
use Rattle.game_core.proofs.Rows.{successors_below, plain_from, mark_cases}
use Rattle.game_core.specs.inside.Search.{IsSoundRow, IsConsistent}

-- some tree of depth at most k wins from c
pub record WinsWithin (g : Game) (k c : ℕ) : Type 0 where
  pub tree : Tree
  pub wins : Wins g tree c
  pub depth : depth_of tree ≤ k

-- one tree for each cell
pub record WinEachWithin (g : Game) (k : ℕ) (cells : List ℕ) : Type 0 where
  pub trees : Trees
  pub wins : WinEach g trees cells
  pub depth : greatest_depth trees ≤ k

pub trees_for : (g : Game) (k : ℕ) (cells : List ℕ) → All (WinsWithin g k) cells → WinEachWithin g k cells
trees_for g k [] h = record { trees = NoTrees; wins = refl; depth = omega arith }
trees_for g k (c ∷ cells) h =
    let first = All-head (WinsWithin g k) c cells h in
    let rest = trees_for g k cells (All-tail (WinsWithin g k) c cells h) in
    record { trees = AndTree first.tree rest.trees; wins = (first.wins, rest.wins); depth = omega arith }

-- a sound row has a tree that is no deeper than its rank
pub tree_for : (g : Game) (rows : List (Option Row)) → IsConsistent g rows → (fuel c k u : ℕ) → k ≤ fuel → IsSoundRow g rows c k u → WinsWithin g k c
tree_for g rows h fuel c zero u le s = record { tree = Leaf; wins = s.0; depth = omega arith }
tree_for g rows h zero c (suc k) u le s = absurd (omega arith)
tree_for g rows h (suc fuel) c (suc k) u le s =
    let each : All (WinsWithin g k) (successors_of g c u) =
    All-weaker (HasRowBelow rows (suc k)) (WinsWithin g k)
    (λ t r.
    let deep : r.row.rank ≤ fuel = omega arith in
    let w = tree_for g rows h fuel t r.row.rank r.row.input deep (h.sound t r.row r.is) in
    let d = w.depth in
    record { tree = w.tree; wins = w.wins; depth = omega arith })
    (successors_of g c u) s.2 in
    let ts = trees_for g k (successors_of g c u) each in
    record { tree = Apply u ts.trees; wins = (s.0, s.1, ts.wins); depth = omega arith }

-- a tree that wins from c is as deep as c's rank at least
mutual
  pub row_for : (g : Game) (rows : List (Option Row)) → IsGame g → IsConsistent g rows → (t : Tree) (c : ℕ) → c < g.cells → Wins g t c → HasRowBelow rows (suc (depth_of t)) c
  row_for g rows a h Leaf c lt w = record { row = record { rank = 0; input = 0 }; is = h.goals c lt w; below = omega arith }
  row_for g rows a h (Apply u next) c lt w =
      elim (mark_cases (mark_of g c)) [
        | inl goal ↦ record { row = record { rank = 0; input = 0 }; is = h.goals c lt goal; below = omega arith }
        | inr other ↦
            let each = rows_for g rows a h next (successors_of g c u) (successors_below g a (pair_of g c u)) w.2 in
            let best = h.best c u (suc (greatest_depth next)) (plain_from (mark_of g c) other w.0) w.1 each in
            record { row = best.row; is = best.is; below = omega arith }
      ]

  pub rows_for : (g : Game) (rows : List (Option Row)) → IsGame g → IsConsistent g rows → (ts : Trees) (cells : List ℕ) → All (λ s. s < g.cells) cells → WinEach g ts cells → All (HasRowBelow rows (suc (greatest_depth ts))) cells
  rows_for g rows a h NoTrees cells lt w = subst (All (HasRowBelow rows 1)) (sym w) (All-nil (HasRowBelow rows 1))
  rows_for g rows a h (AndTree t rest) [] lt w = absurd w
  rows_for g rows a h (AndTree t rest) (c ∷ cells) lt w =
      let k = suc (max (depth_of t) (greatest_depth rest)) in
      let first = row_for g rows a h t c (All-head (λ s. s < g.cells) c cells lt) w.0 in
      let others = rows_for g rows a h rest cells (All-tail (λ s. s < g.cells) c cells lt) w.1 in
      All-cons (HasRowBelow rows k) c cells
      (let b = first.below in record { row = first.row; is = first.is; below = omega arith })
      (All-weaker (HasRowBelow rows (suc (greatest_depth rest))) (HasRowBelow rows k) (λ s r. let b = r.below in record { row = r.row; is = r.is; below = omega arith }) cells others)

-- two rows of one cell are the same
pub same_row : (rows : List (Option Row)) (c : ℕ) (a b : Row) → row_of rows c ≡ Some a → row_of rows c ≡ Some b → a ≡ b
same_row rows c a b p q = cc

-- a consistent row's rank is the cell's rank
pub rank_from_row : (g : Game) (rows : List (Option Row)) → IsGame g → IsConsistent g rows → (c : ℕ) (row : Row) → c < g.cells → row_of rows c ≡ Some row → IsRank g c row.rank
rank_from_row g rows a h c row lt e =
    let least : (t : Tree) → Wins g t c → row.rank ≤ depth_of t =
    (λ t w. let r = row_for g rows a h t c lt w in let b = r.below in let s : row.rank ≡ r.row.rank = ap (λ x. x.rank) (same_row rows c row r.row e r.is) in omega arith) in
    let w = tree_for g rows h row.rank c row.rank row.input (omega arith) (h.sound c row e) in
    let ge = least w.tree w.wins in
    record { reached = (w.tree, w.wins, omega arith); least = least }
