-- The ranks of a patrol's rows lie from 1 to the number of cells: each rank below one, but 0, is that of another row of the turn.
use Rattle.std.proofs.Common.{inl, inr, ◌≡◌, ◌≢◌, ◌⊎◌, ℕ, zero, suc, ◌+◌, ◌<◌, ◌≤◌, max, Bool, true, false, eqb, List, [], ◌∷◌, length, Option, Some, None, All, arith, rules, refl, sym, ap, ◌∙◌, subst}
use Rattle.std.specs.List.{AllPairs}
use Rattle.std.proofs.lemmas.Bool.{eqb-true, eqb-false}
use Rattle.std.proofs.lemmas.List.Elements.{All-head, All-tail, All-nil, All-cons, All-weaker}
use Rattle.std.proofs.lemmas.List.Kept.{AllPairs-cons}
use Rattle.game_core.specs.declared.game.Row.{Row}
use Rattle.game_core.specs.Game.{Game, IsGame, pair_of, successors_of}
use Rattle.game_core.specs.Strategy.{Tree, Leaf, Apply, Trees, NoTrees, AndTree, LeadsTo, LeadEachTo, depth_of, greatest_depth}
use Rattle.game_core.specs.Solution.{row_of, HasRowBelow}
use Rattle.game_core.proofs.Rows.{successors_below, below_from_row}
use Rattle.turn_rows.specs.Targets.{next_turn}
use Rattle.temporal_games.specs.Visits.{ReachesLater, Visits, VisitsOn, IsArrival}
use Rattle.turn_rows.specs.Rows.{rows_for}
use Rattle.temporal_games.specs.Patrol.{IsReachedLaterBy, IsPatrolRow, IsPatrol}
use Rattle.temporal_games.proofs.ForEver.{reaches_later_weaker}
use Rattle.game_core.proofs.RankBound.{HasRowOf, below_of, differs}
use Rattle.base.proofs.Times.{length_of_distinct_below}

-- cells with rows of all ranks from k down to 1
record IsChain (rows : List (Option Row)) (k : ℕ) (cells : List ℕ) : Type 0 where
  count : length cells ≡ k
  ranks : All (HasRowBelow rows (suc k)) cells
  apart : AllPairs (λ a b. a ≢ b) cells

module _ (g : Game) (a : IsGame g) (In : ℕ → ℕ → Type 0) (turns : ℕ) (rows : List (List (Option Row))) (h : IsPatrol g In turns rows) (j : ℕ) (lj : j < turns) where
  abbrev Ends : ℕ → Type 0
  Ends s = IsArrival g In turns j s

  abbrev here : List (Option Row)
  here = rows_for rows j

  row_is : (c : ℕ) (row : Row) → c < g.cells → row_of here c ≡ Some row → IsReachedLaterBy Ends g c row
  row_is c row lt e = (subst (IsPatrolRow g In turns j c) e (h.each j c lj lt)).1

  -- who can travel to arrivals visits on
  visits_on : (c : ℕ) → c < g.cells → ReachesLater Ends g c → VisitsOn g In turns j c
  visits_on c lt t zero = t.2.0
  visits_on c lt t (suc d) = reaches_later_weaker g Ends (λ s. In j s × Visits g In turns d (next_turn turns j) s) a (λ s ls e. (e.0, e.1 d)) c lt t

  pub row_for : (u : ℕ) (next : Trees) (c : ℕ) → c < g.cells → LeadsTo Ends g (Apply u next) c → HasRowBelow here (depth_of (Apply u next) + 1) c
  row_for u next c lt l = by_row (row_of here c) refl (h.each j c lj lt)
    where
      by_row : (o : Option Row) → row_of here c ≡ o → IsPatrolRow g In turns j c o → HasRowBelow here (depth_of (Apply u next) + 1) c
      by_row None e none = absurd (none (visits_on c lt (u, next, l)))
      by_row (Some row) e is = let le = is.1.least u next l in record { row = row; is = e; below = omega (arith, le) }

  -- a cell is an arrival, or has a row of a rank below k
  abbrev Near : ℕ → ℕ → Type 0
  Near k s = Ends s ⊎ HasRowBelow here k s

  near : (t : Tree) (c : ℕ) → c < g.cells → LeadsTo Ends g t c → Near (suc (depth_of t)) c
  near Leaf c lt l = inl l
  near (Apply u next) c lt l = let r = row_for u next c lt l in let below = r.below in inr (record { row = r.row; is = r.is; below = omega (arith, below) })

  nearer : (k m s : ℕ) → k ≤ m → Near k s → Near m s
  nearer k m s le (inl e) = inl e
  nearer k m s le (inr r) = let below = r.below in inr (record { row = r.row; is = r.is; below = omega (arith, le, below) })

  near_each : (ts : Trees) (cells : List ℕ) → All (λ s. s < g.cells) cells → LeadEachTo Ends g ts cells → All (Near (suc (greatest_depth ts))) cells
  near_each NoTrees cells lt l = subst (All (Near 1)) (sym l) (All-nil (Near 1))
  near_each (AndTree t rest) [] lt l = absurd l
  near_each (AndTree t rest) (c ∷ cells) lt l =
      let k = suc (max (depth_of t) (greatest_depth rest)) in
      All-cons (Near k) c cells
      (nearer (suc (depth_of t)) k c (omega arith) (near t c (All-head (λ s. s < g.cells) c cells lt) l.0))
      (All-weaker (Near (suc (greatest_depth rest))) (Near k) (λ s n. nearer (suc (greatest_depth rest)) k s (omega arith) n) cells (near_each rest cells (All-tail (λ s. s < g.cells) c cells lt) l.1))

  -- one of the cells has a row of rank k, or all are nearer
  one_of : (k : ℕ) (cells : List ℕ) → All (Near (suc k)) cells → ((s : ℕ) × HasRowOf here k s) ⊎ All (Near k) cells
  one_of k [] n = inr (All-nil (Near k))
  one_of k (s ∷ cells) n = by_near (All-head (Near (suc k)) s cells n) (one_of k cells (All-tail (Near (suc k)) s cells n))
    where
      by_rank : (r : HasRowBelow here (suc k) s) → All (Near k) cells → (b : Bool) → eqb r.row.rank k ≡ b → ((s : ℕ) × HasRowOf here k s) ⊎ All (Near k) (s ∷ cells)
      by_rank r rest true e = inl (s, record { input = r.row.input; is = r.is ∙ ap (λ (n : ℕ). Some (record { rank = n; input = r.row.input })) (eqb-true r.row.rank k e) })
      by_rank r rest false e =
          let other = eqb-false r.row.rank k e in
          let below = r.below in
          inr (All-cons (Near k) s cells (inr (record { row = r.row; is = r.is; below = omega (arith, other, below) })) rest)

      by_near : Near (suc k) s → ((s : ℕ) × HasRowOf here k s) ⊎ All (Near k) cells → ((s : ℕ) × HasRowOf here k s) ⊎ All (Near k) (s ∷ cells)
      by_near first (inl found) = inl found
      by_near (inl e) (inr rest) = inr (All-cons (Near k) s cells (inl e) rest)
      by_near (inr r) (inr rest) = by_rank r rest (eqb r.row.rank k) refl

  -- trees no deeper than k for cells that are as near
  trees_for : (k : ℕ) (cells : List ℕ) → All (λ s. s < g.cells) cells → All (Near (suc k)) cells → (ts : Trees) × LeadEachTo Ends g ts cells × (greatest_depth ts ≤ k)
  trees_for k [] lt n = (NoTrees, refl, omega arith)
  trees_for k (c ∷ cells) lt n =
      let first = tree_for (All-head (Near (suc k)) c cells n) in
      let rest = trees_for k cells (All-tail (λ s. s < g.cells) c cells lt) (All-tail (Near (suc k)) c cells n) in
      let d = first.2 in
      let e = rest.2 in
      (AndTree first.0 rest.0, (first.1, rest.1), omega (arith, d, e))
    where
      tree_for : Near (suc k) c → (t : Tree) × LeadsTo Ends g t c × (depth_of t ≤ k)
      tree_for (inl e) = (Leaf, e, omega arith)
      tree_for (inr r) =
          let is = (row_is c r.row (All-head (λ s. s < g.cells) c cells lt) r.is).reached in
          let below = r.below in
          let deep = is.2 in
          (Apply r.row.input is.0, is.1, omega (arith, below, deep))

  -- some cell has a row of the rank before
  before : (c k : ℕ) → c < g.cells → HasRowOf here (suc (suc k)) c → (s : ℕ) × HasRowOf here (suc k) s
  before c k lt row =
      let is = row_is c (record { rank = suc (suc k); input = row.input }) lt row.is in
      let tree = is.reached in
      let deep = tree.2 in
      let cells = successors_of g c row.input in
      let within = successors_below g a (pair_of g c row.input) in
      let full : greatest_depth tree.0 ≡ suc k = omega (arith, deep) in
      elim (one_of (suc k) cells (subst (λ (n : ℕ). All (Near (suc n)) cells) full (near_each tree.0 cells within tree.1.2))) [
        | inl found ↦ found
        | inr less ↦
            let trees = trees_for k cells within less in
            let shallow = trees.2 in
            let least = is.least row.input trees.0 (tree.1.0, tree.1.1, trees.1) in
            absurd (omega (arith, shallow, least))
      ]

  cell_of_row : (k c : ℕ) → HasRowOf here k c → c < g.cells
  cell_of_row k c row = let lt = below_from_row here c (record { rank = k; input = row.input }) row.is in omega (arith, lt, h.one_row_each j lj)

  chain : (k c : ℕ) → HasRowOf here (suc k) c → (cells : List ℕ) × IsChain here (suc k) cells
  chain zero c row = (
    c ∷ [],
    record {
      count = refl;
      ranks = All-cons (HasRowBelow here 2) c [] (below_of here 1 c row) (All-nil (HasRowBelow here 2));
      apart = AllPairs-cons (λ a b. a ≢ b) c [] (All-nil (λ b. c ≢ b)) (search rules);
    },
  )
  chain (suc k) c row =
      let next = before c k (cell_of_row (suc (suc k)) c row) row in
      let more = chain k next.0 next.1 in
      let m = more.1 in (
        c ∷ more.0,
        record {
          count = ap suc m.count;
          ranks = All-cons (HasRowBelow here (suc (suc (suc k)))) c more.0 (below_of here (suc (suc k)) c row)
              (All-weaker (HasRowBelow here (suc (suc k))) (HasRowBelow here (suc (suc (suc k)))) (λ s b. let below = b.below in record { row = b.row; is = b.is; below = omega (arith, below) }) more.0 m.ranks);
          apart = AllPairs-cons (λ a b. a ≢ b) c more.0 (All-weaker (HasRowBelow here (suc (suc k))) (λ b. c ≢ b) (λ s b. differs here (suc (suc k)) c s row b) more.0 m.ranks) m.apart;
        },
      )

  rank_within : (k c : ℕ) → HasRowOf here (suc k) c → suc k ≤ g.cells
  rank_within k c row =
      let found = chain k c row in
      let cells = found.0 in
      let inside : All (λ s. s < g.cells) cells =
      All-weaker (HasRowBelow here (suc (suc k))) (λ s. s < g.cells) (λ s b. let lt = below_from_row here s b.row b.is in let n = h.one_row_each j lj in omega (arith, lt, n)) cells found.1.ranks in
      let few : length cells ≤ g.cells = length_of_distinct_below g.cells cells found.1.apart inside in
      let count = found.1.count in
      omega (arith, few, count)

  pub within : (c : ℕ) (row : Row) → c < g.cells → row_of here c ≡ Some row → (1 ≤ row.rank) × (row.rank ≤ g.cells) × (row.input < g.inputs)
  within c row lt e =
      let is = (row_is c row lt e).reached in
      let deep = is.2 in
      (omega (arith, deep), by_rank row.rank row.input e deep, is.1.1.0)
    where
      by_rank : (k u : ℕ) → row_of here c ≡ Some (record { rank = k; input = u }) → suc (greatest_depth (row_is c row lt e).reached.0) ≡ k → k ≤ g.cells
      by_rank zero u is deep = absurd (omega (arith, deep))
      by_rank (suc k) u is deep = rank_within k c (record { input = u; is = is })
