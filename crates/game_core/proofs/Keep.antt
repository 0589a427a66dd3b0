-- Keep trees stand on the cells of closed sets and on no cell that falls, and a game has one keep solution.
use Rattle.std.proofs.Common.{inl, inr, ◌≡◌, ◌≢◌, ℕ, zero, suc, ◌+◌, ◌-◌, ◌<◌, ◌≤◌, Bool, true, false, ◌==◌, List, [], ◌∷◌, length, get_or, Option, Some, None, All, arith, refl, sym, ◌∙◌, ap₂, subst, ext_get_or, le_antisymm}
use Rattle.std.specs.List.{Any, list_any, range_with_len}
use Rattle.std.proofs.lemmas.Bool.{or_cases}
use Rattle.std.proofs.lemmas.Bool.Decides.{Decides-eqb}
use Rattle.std.proofs.lemmas.List.Elements.{All-head, All-tail, All-nil, All-cons, All-weaker}
use Rattle.std.proofs.lemmas.List.Folds.{Any-from_list_any}
use Rattle.std.proofs.lemmas.List.FromFn.{length-range_with_len, get_or-range_with_len}
use Rattle.std.proofs.lemmas.List.Sums.{AllPass-from_list_all}
use Rattle.game_core.specs.declared.game.Mark.{Mark}
use Rattle.game_core.specs.declared.game.Mark.TheVariants.{Goal, Obstacle, Plain}
use Rattle.game_core.specs.declared.game.Row.{Row}
use Rattle.game_core.specs.Game.{Game, IsGame, IsEnabled, mark_of, pair_of, successors_of}
use Rattle.game_core.specs.Strategy.{Tree, Leaf, Apply, Trees, NoTrees, AndTree}
use Rattle.game_core.specs.Solution.{row_of, HasRow}
use Rattle.game_core.specs.Keep.{StandsOn, StandEach, HasKeepTree, IsKept, IsKeepRow, IsKeepSolution}
use Rattle.game_core.specs.Fallen.{is_obstacle, is_useless, is_helpless, has_fallen, IsHeldBy, IsStable, AreStable}
use Rattle.game_core.proofs.Rows.{successors_below}
use Rattle.std.proofs.lemmas.List.{nil_from_length}

-- subtrees for cells, one by one
pub keep_trees_for : (g : Game) (d : ℕ) (cells : List ℕ) → All (HasKeepTree g d) cells → (next : Trees) × StandEach g next d cells
keep_trees_for g d [] h = (NoTrees, refl)
keep_trees_for g d (c ∷ cells) h =
    let first = All-head (HasKeepTree g d) c cells h in
    let rest = keep_trees_for g d cells (All-tail (HasKeepTree g d) c cells h) in
    (AndTree first.0 rest.0, (first.1, rest.1))

pub each_has_tree : (g : Game) (d : ℕ) (next : Trees) (cells : List ℕ) → StandEach g next d cells → All (HasKeepTree g d) cells
each_has_tree g d NoTrees cells h = subst (All (HasKeepTree g d)) (sym h) (All-nil (HasKeepTree g d))
each_has_tree g d (AndTree t rest) [] h = absurd h
each_has_tree g d (AndTree t rest) (c ∷ cells) h = All-cons (HasKeepTree g d) c cells (t, h.0) (each_has_tree g d rest cells h.1)

-- a test on cells that only cells pass from which the controller can go on to such cells
abbrev pub IsClosed : Game → (ℕ → Type 0) → Type 0
IsClosed g P = (c : ℕ) → c < g.cells → P c → (mark_of g c ≢ Obstacle) × ((u : ℕ) × IsEnabled g c u × All P (successors_of g c u))

-- the cells of a closed set are kept
pub closed_is_kept : (g : Game) → IsGame g → (P : ℕ → Type 0) → IsClosed g P → (c : ℕ) → c < g.cells → P c → IsKept g c
closed_is_kept g a P closed c lt p zero = (Leaf, (closed c lt p).0)
closed_is_kept g a P closed c lt p (suc d) =
    let here = closed c lt p in
    let u = here.1.0 in
    let each : All (HasKeepTree g d) (successors_of g c u) =
    λ i e li. closed_is_kept g a P closed (get_or (successors_of g c u) i e) (successors_below g a (pair_of g c u) i e li) (here.1.2 i e li) d in
    let trees = keep_trees_for g d (successors_of g c u) each in
    (Apply u trees.0, (here.0, here.1.1, trees.1))

-- an obstacle's mark
obstacle_if : (m : Mark) → is_obstacle m ≡ true → m ≡ Obstacle
obstacle_if Goal e = absurd (cc)
obstacle_if Obstacle e = refl
obstacle_if Plain e = absurd (cc)

-- an enabled input of a helpless cell leads to a cell that passes the test
pub passes_after : (g : Game) (test : ℕ → Bool) (c u : ℕ) → is_helpless g test c ≡ true → IsEnabled g c u → Any (λ s. test s ≡ true) (successors_of g c u)
passes_after g test c u e enabled =
    let n = length-range_with_len 0 g.inputs in
    let at = get_or-range_with_len 0 g.inputs u u enabled.0 in
    let here = AllPass-from_list_all (is_useless g test c) (range_with_len 0 g.inputs) e u u (let lt = enabled.0 in omega arith) in
    let same : get_or (range_with_len 0 g.inputs) u u ≡ u = omega arith in
    let useless : is_useless g test c u ≡ true = subst (λ u. is_useless g test c u ≡ true) same here in
    elim (or_cases (length (successors_of g c u) == 0) (list_any test (successors_of g c u)) useless) [
      | inl none ↦ absurd (enabled.1 (nil_from_length (successors_of g c u) ((Decides-eqb (length (successors_of g c u)) 0).0 none)))
      | inr some' ↦ Any-from_list_any test (successors_of g c u) some'
    ]

-- where a keep tree stands, one whose depth is less by 1 stands as well
shorter : (g : Game) (d c : ℕ) (t : Tree) → StandsOn g t (suc d) c → HasKeepTree g d c
shorter g d c Leaf s = absurd s
shorter g zero c (Apply u next) s = (Leaf, s.0)
shorter g (suc d) c (Apply u next) s =
    let each = All-weaker (HasKeepTree g (suc d)) (HasKeepTree g d) (λ c t. shorter g d c t.0 t.1) (successors_of g c u) (each_has_tree g (suc d) next (successors_of g c u) s.2) in
    let trees = keep_trees_for g d (successors_of g c u) each in
    (Apply u trees.0, (s.0, s.1, trees.1))

-- where a keep tree stands, one that is less deep stands as well
cut_short : (g : Game) (d e c : ℕ) → HasKeepTree g (e + d) c → HasKeepTree g d c
cut_short g d zero c t = subst (λ n. HasKeepTree g n c) {x = zero + d} {y = d} (omega arith) t
cut_short g d (suc e) c t =
    let deeper = subst (λ n. HasKeepTree g n c) {x = suc e + d} {y = suc (e + d)} (omega arith) t in
    cut_short g d e c (shorter g (e + d) c deeper.0 deeper.1)

pub less_deep : (g : Game) (d e c : ℕ) → d ≤ e → HasKeepTree g e c → HasKeepTree g d c
less_deep g d e c le t = cut_short g d (e - d) c (subst (λ n. HasKeepTree g n c) {x = e} {y = (e - d) + d} (omega arith) t)

-- no keep tree of depth d + 1 stands on a cell that has fallen by round d
pub no_keep_tree : (g : Game) (d c : ℕ) → has_fallen g d c ≡ true → HasKeepTree g (suc d) c → ⊥
no_keep_tree g d c e (Leaf, s) = s
no_keep_tree g zero c e (Apply u next, s) =
    elim (or_cases (is_obstacle (mark_of g c)) (is_helpless g (λ s. false) c) e) [
      | inl blocked ↦ s.0 (obstacle_if (mark_of g c) blocked)
      | inr helpless ↦ let f : false ≡ true = (passes_after g (λ s. false) c u helpless s.1).4 in absurd (cc)
    ]
no_keep_tree g (suc d) c e (Apply u next, s) =
    elim (or_cases (has_fallen g d c) (is_helpless g (has_fallen g d) c) e) [
      | inl before ↦ no_keep_tree g d c before (shorter g (suc d) c (Apply u next) s)
      | inr helpless ↦
          let fell = passes_after g (has_fallen g d) c u helpless s.1 in
          let tree = each_has_tree g (suc d) next (successors_of g c u) s.2 fell.0 fell.1 fell.2 in
          no_keep_tree g d fell.1 fell.4 (subst (HasKeepTree g (suc d)) fell.3 tree)
    ]

-- settled rows are the keep solution
module _ (g : Game) (rows : List (Option Row)) (a : IsGame g) (h : AreStable g rows) where
  held : (c : ℕ) (row : Row) → c < g.cells → row_of rows c ≡ Some row → IsHeldBy g rows c row
  held c row lt e = subst (IsStable g rows c) e (h.each c lt)

  rows_are_closed : IsClosed g (HasRow rows)
  rows_are_closed c lt (row, e) = let is = held c row lt e in (is.clear, (row.input, is.leads.0, is.leads.1))

  row_is_kept : (c : ℕ) → c < g.cells → HasRow rows c → IsKept g c
  row_is_kept = closed_is_kept g a (HasRow rows) rows_are_closed

  has_row : (c : ℕ) → c < g.cells → IsKept g c → HasRow rows c
  has_row c lt kept = by_row (row_of rows c) refl (h.each c lt)
    where
      by_row : (o : Option Row) → row_of rows c ≡ o → IsStable g rows c o → HasRow rows c
      by_row None e falls = absurd (no_keep_tree g falls.0 c falls.1 (kept (suc falls.0)))
      by_row (Some row) e is = (row, e)

  keep_row : (c : ℕ) → c < g.cells → (o : Option Row) → row_of rows c ≡ o → IsStable g rows c o → IsKeepRow g c o
  keep_row c lt None e falls = λ kept. no_keep_tree g falls.0 c falls.1 (kept (suc falls.0))
  keep_row c lt (Some row) e is = record {
    kept = row_is_kept c lt (row, e);
    rank = is.rank;
    leads = (is.leads.0, λ i d li. row_is_kept (get_or (successors_of g c row.input) i d) (successors_below g a (pair_of g c row.input) i d li) (is.leads.1 i d li));
    least = λ v leads. is.least v (leads.0, λ i d li. has_row (get_or (successors_of g c v) i d) (successors_below g a (pair_of g c v) i d li) (leads.1 i d li));
  }

  pub stable_rows_are_the_keep_solution : IsKeepSolution g rows
  stable_rows_are_the_keep_solution = record { one_each = h.one_each; each = λ c lt. keep_row c lt (row_of rows c) refl (h.each c lt) }

pub same_keep_row : (g : Game) (c : ℕ) (a b : Option Row) → IsKeepRow g c a → IsKeepRow g c b → a ≡ b
same_keep_row g c None None a b = refl
same_keep_row g c None (Some q) a b = absurd (a b.kept)
same_keep_row g c (Some p) None a b = absurd (b a.kept)
same_keep_row g c (Some p) (Some q) a b =
    ap₂ (λ k u. Some (record { rank = k; input = u })) (a.rank ∙ sym b.rank) (le_antisymm (a.least q.input b.leads) (b.least p.input a.leads))

pub one_keep_solution : (g : Game) (first second : List (Option Row)) → IsKeepSolution g first → IsKeepSolution g second → first ≡ second
one_keep_solution g first second a b =
    ext_get_or None first second (omega arith) (λ c lt. same_keep_row g c (row_of first c) (row_of second c) (a.each c (omega arith)) (b.each c (omega arith)))
