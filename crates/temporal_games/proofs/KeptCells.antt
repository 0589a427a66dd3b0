-- From a cell where as many visits can be made as there are cells the controller can go on for ever.
use Rattle.std.proofs.Common.{inl, inr, ◌≡◌, ℕ, zero, suc, ◌<◌, ◌≤◌, List, [], ◌∷◌, Option, Some, None, All, arith, refl, sym, subst}
use Rattle.std.proofs.lemmas.List.Elements.{All-head, All-tail, All-nil, All-cons}
use Rattle.game_core.specs.declared.game.Row.{Row}
use Rattle.game_core.specs.Game.{Game, IsGame, pair_of, successors_of}
use Rattle.game_core.specs.Keep.{HasKeepTree, IsKept, IsKeepRow, IsKeepSolution}
use Rattle.game_core.specs.Solution.{row_of, HasRow}
use Rattle.game_core.specs.Strategy.{Tree, Leaf, Apply, Trees, NoTrees, AndTree, LeadsTo, LeadEachTo}
use Rattle.game_core.proofs.InTime.{kept_or_falls_in_time}
use Rattle.game_core.proofs.Keep.{keep_trees_for}
use Rattle.game_core.proofs.Rows.{successors_below}
use Rattle.turn_rows.specs.Targets.{next_turn}
use Rattle.temporal_games.specs.Visits.{Visits}

module _ (g : Game) (a : IsGame g) where
  -- where a strategy leads to cells with keep trees of depths up to d, its cells have them
  mutual
    keep_tree : (E : ℕ → Type 0) (d : ℕ) → ((e s : ℕ) → e ≤ d → s < g.cells → E s → HasKeepTree g e s) → (t : Tree) (c e : ℕ) → e ≤ d → c < g.cells → LeadsTo E g t c → HasKeepTree g e c
    keep_tree E d ends Leaf c e le lt l = ends e c le lt l
    keep_tree E d ends (Apply u next) c zero le lt l = (Leaf, l.0)
    keep_tree E d ends (Apply u next) c (suc e) le lt l =
        let trees = keep_trees_for g e (successors_of g c u) (keep_each E d ends next (successors_of g c u) e (omega (arith, le)) (successors_below g a (pair_of g c u)) l.2) in
        (Apply u trees.0, (l.0, l.1, trees.1))

    keep_each : (E : ℕ → Type 0) (d : ℕ) → ((e s : ℕ) → e ≤ d → s < g.cells → E s → HasKeepTree g e s) → (next : Trees) (cells : List ℕ) (e : ℕ) → e ≤ d → All (λ s. s < g.cells) cells → LeadEachTo E g next cells → All (HasKeepTree g e) cells
    keep_each E d ends NoTrees cells e le lt l = subst (All (HasKeepTree g e)) (sym l) (All-nil (HasKeepTree g e))
    keep_each E d ends (AndTree t rest) [] e le lt l = absurd l
    keep_each E d ends (AndTree t rest) (c ∷ cells) e le lt l =
        All-cons (HasKeepTree g e) c cells
        (keep_tree E d ends t c e le (All-head (λ s. s < g.cells) c cells lt) l.0)
        (keep_each E d ends rest cells e le (All-tail (λ s. s < g.cells) c cells lt) l.1)

  module _ (In : ℕ → ℕ → Type 0) (turns : ℕ) where
    -- each visit takes a sample
    visits_keep : (d j c e : ℕ) → e ≤ d → c < g.cells → Visits g In turns d j c → HasKeepTree g e c
    visits_keep zero j c zero le lt v = (Leaf, v)
    visits_keep zero j c (suc e) le lt v = absurd (omega (arith, le))
    visits_keep (suc d) j c zero le lt v = (Leaf, v.2.0)
    visits_keep (suc d) j c (suc e) le lt v =
        let cells = successors_of g c v.0 in
        let trees = keep_trees_for g e cells (keep_each (λ s. In j s × Visits g In turns d (next_turn turns j) s) d (λ e s le ls there. visits_keep d (next_turn turns j) s e le ls there.1) v.1 cells e (omega (arith, le)) (successors_below g a (pair_of g c v.0)) v.2.2) in
        (Apply v.0 trees.0, (v.2.0, v.2.1, trees.1))

    visitors_are_kept : (j c : ℕ) → c < g.cells → Visits g In turns g.cells j c → IsKept g c
    visitors_are_kept j c lt v =
        elim (kept_or_falls_in_time g a c lt) [
          | inl kept ↦ kept
          | inr falls ↦ absurd (falls.2 (visits_keep g.cells j c falls.0 falls.1 lt v))
        ]

    pub visitors_have_rows : (kept : List (Option Row)) → IsKeepSolution g kept → (j c : ℕ) → c < g.cells → Visits g In turns g.cells j c → HasRow kept c
    visitors_have_rows kept keeps j c lt v = by_row (row_of kept c) refl (keeps.each c lt)
      where
        by_row : (o : Option Row) → row_of kept c ≡ o → IsKeepRow g c o → HasRow kept c
        by_row None e none = absurd (none (visitors_are_kept j c lt v))
        by_row (Some row) e by = (row, e)
