-- The cell at the head of the queue is taken: it is cut from each pair that leads to it.
use Rattle.std.proofs.Common.{inl, inr, ◌≡◌, ◌≢◌, ℕ, suc, ◌+◌, ◌<◌, ◌≤◌, ◌⊎◌, Bool, true, false, ◌||◌, ◌&&◌, ◌==◌, List, [], ◌∷◌, ◌++◌, length, get_or, take, Option, Some, Contains, arith, refl, sym, ◌∙◌, ap, subst, append-nil, append_assoc, length-append, length-take, get_or-take}
use Rattle.std.proofs.Math.Bool.{or-false, and-false}
use Rattle.std.proofs.lemmas.Bool.{cases_eq, ne_eqb}
use Rattle.std.proofs.lemmas.List.{get_or_append_left, get_or_default, take-append-le, take_more, take_all}
use Rattle.std.proofs.lemmas.List.Elements.{Contains-get_or}
use Rattle.std.proofs.lemmas.List.Folds.{list_any-append, list_any_more, list_any_none}
use Rattle.std.proofs.lemmas.List.Kept.{AllPairs-from_increasing}
use Rattle.std.proofs.lemmas.Map.Views.{list_any-from_Contains}
use Rattle.std.specs.Cmp.{nat_eq_equiv}
use Rattle.std.specs.List.{list_any}
use Rattle.game_core.proofs.Edges.{with_edge, some_left, counted_alike, pair_below}
use Rattle.game_core.proofs.Queues.{raise_queue, next_queue}
use Rattle.game_core.proofs.Step.{Grows, IsStep, cut_step}
use Rattle.game_core.specs.declared.game.Row.{Row}
use Rattle.game_core.specs.Game.{Game, IsGame, AreSources, pair_of, pairs_of, successors_at}
use Rattle.game_core.specs.Solution.{row_of, rank_at, rank_in}
use Rattle.game_core.specs.inside.Search.{SearchProgress, after_cut, IsTold, IsSearch, IsSearched, is_taken}

-- cuts that agree on the successors count alike
pub told_alike : (g : Game) (cut other : ℕ → ℕ → Bool) (top : ℕ) (rows : List (Option Row)) → IsTold g cut top rows → ((pair s : ℕ) → pair < pairs_of g → Contains (successors_at g pair) s → cut pair s ≡ other pair s) → IsTold g other top rows
told_alike g cut other top rows h alike = record {
  one_each = h.one_each;
  goals = h.goals;
  lower = λ pair s lt ls e. h.lower pair s lt ls (alike pair s lt ls ∙ e);
  sound = h.sound;
  best = λ c v m lc plain enabled all each. h.best c v m lc plain enabled (λ i d li. let q = pair_of g c v in alike q (get_or (successors_at g q) i d) (pair_below g c v lc enabled.0) (Contains-get_or (successors_at g q) i d li) ∙ all i d li) each;
}

pub search_alike : (g : Game) (cut other : ℕ → ℕ → Bool) (head top : ℕ) (p : SearchProgress) → IsSearch g cut head top p → ((pair s : ℕ) → pair < pairs_of g → Contains (successors_at g pair) s → cut pair s ≡ other pair s) → IsSearch g other head top p
search_alike g cut other head top p h alike = record {
  queue = h.queue;
  counted = counted_alike g cut other p.left h.counted alike;
  told = told_alike g cut other top p.rows h.told alike;
}

-- rows of one rank more may come
raise_search : (g : Game) (cut : ℕ → ℕ → Bool) (head top : ℕ) (p : SearchProgress) → IsSearch g cut head top p → head < length p.queue → IsSearch g cut head (suc (rank_at p.rows (get_or p.queue head 0))) p
raise_search g cut head top p h lt =
    record {
      queue = raise_queue head top p.rows p.queue h.queue 0 lt;
      counted = h.counted;
      told = record {
        one_each = h.told.one_each;
        goals = h.told.goals;
        lower = λ pair s lp ls e. let r = h.told.lower pair s lp ls e in let b = r.below in record { row = r.row; is = r.is; below = omega arith };
        sound = h.told.sound;
        best = h.told.best;
      };
    }

-- the cells before the head are cut from each pair, and the cell c from the first j sources
abbrev pub taking : ℕ → List ℕ → ℕ → List ℕ → ℕ → ℕ → ℕ → Bool
taking head queue c sources j pair s = list_any (◌==◌ s) (take head queue) || (list_any (◌==◌ pair) (take j sources) && s == c)

-- What stands as the cell c is taken, with j of its sources done, since the progress was `first`.
pub record IsTaking (g : Game) (head top c : ℕ) (sources : List ℕ) (j : ℕ) (first p : SearchProgress) : Type 0 where
  pub search : IsSearch g (taking head first.queue c sources j) head top p
  pub row : Row
  pub has : row_of p.rows c ≡ Some row
  pub rank : suc row.rank ≡ top
  pub long : top ≤ length p.queue
  pub grows : Grows first p

module _ (g : Game) (head c : ℕ) (sources : List ℕ) (first : SearchProgress) (lt : head < length first.queue) (at : get_or first.queue head 0 ≡ c) where
  taking_none : (pair s : ℕ) → is_taken head first.queue pair s ≡ taking head first.queue c sources 0 pair s
  taking_none pair s = sym (or-false (list_any (◌==◌ s) (take head first.queue)))

  pub taking_start : (top : ℕ) → top ≡ suc (rank_at first.rows c) → IsSearched g head first → IsTaking g head top c sources 0 first first
  taking_start top e h =
      let raised = raise_search g (is_taken head first.queue) head h.top first h.search lt in
      let same : rank_at first.rows (get_or first.queue head 0) ≡ rank_at first.rows c = ap (rank_at first.rows) at in
      let has = raised.queue.has_row c (subst (Contains first.queue) at (Contains-get_or first.queue head 0 lt)) in
      let its : rank_at first.rows c ≡ has.0.rank = ap rank_in has.1 in
      let tops : suc (rank_at first.rows (get_or first.queue head 0)) ≡ top = omega arith in
      record {
        search = search_alike g (is_taken head first.queue) (taking head first.queue c sources 0) head top first
            (subst (λ t. IsSearch g (is_taken head first.queue) head t first) tops raised) (λ pair s lp ls. taking_none pair s);
        row = has.0;
        has = has.1;
        rank = omega arith;
        long = omega arith;
        grows = record { more = []; is = sym (append-nil first.queue) };
      }

both : (t a d b : Bool) → ((t || (a && b)) || (d && b)) ≡ (t || ((a || d) && b))
both true a d b = refl
both false true d true = refl
both false true true false = refl
both false true false false = refl
both false false d b = refl

module _ (g : Game) (a : IsGame g) (head top c : ℕ) (sources : List ℕ) (are : AreSources g c sources) (first : SearchProgress) (lt : head < length first.queue) (at : get_or first.queue head 0 ≡ c) where
  module _ (p : SearchProgress) (j : ℕ) (lj : j < length sources) (h : IsTaking g head top c sources j first p) where
    abbrev pair : ℕ
    pair = get_or sources j 0

    pub pair_leads : (pair < pairs_of g) × Contains (successors_at g pair) c
    pair_leads = (are.exactly pair).0 (Contains-get_or sources j 0 lj)

    first_position : (i d : ℕ) → i < length first.queue → get_or p.queue i d ≡ get_or first.queue i d
    first_position i d li = ap (λ (q : List ℕ). get_or q i d) h.grows.is ∙ get_or_append_left first.queue h.grows.more d i li

    longer : length first.queue ≤ length p.queue
    longer = let e : length p.queue ≡ length (first.queue ++ h.grows.more) = ap length h.grows.is in let n = length-append first.queue h.grows.more in omega arith

    -- the pair's edge to c is whole yet
    not_taken : list_any (◌==◌ c) (take head first.queue) ≡ false
    not_taken = list_any_none (◌==◌ c) (take head first.queue) (λ i d li.
        let n = length-take head first.queue in
        let e = get_or-take head first.queue i d (omega arith) in
        let p1 = first_position i d (omega arith) in
        let p2 = first_position head d lt in
        let at' : get_or first.queue head d ≡ c = get_or_default first.queue head d 0 lt ∙ at in
        let apart = h.search.queue.once i head d (omega arith) (let l = longer in omega arith) in
        ne_eqb c (get_or (take head first.queue) i d) (λ f. apart (omega arith)))

    not_done : list_any (◌==◌ pair) (take j sources) ≡ false
    not_done = list_any_none (◌==◌ pair) (take j sources) (λ i d li.
        let n = length-take j sources in
        let e = get_or-take j sources i d (omega arith) in
        let apart = AllPairs-from_increasing sources are.rising i j d (omega arith) lj in
        let at' : get_or sources j d ≡ pair = get_or_default sources j d 0 lj in
        ne_eqb pair (get_or (take j sources) i d) (λ f. omega arith))

    whole : taking head first.queue c sources j pair c ≡ false
    whole = ap (λ t. t || (list_any (◌==◌ pair) (take j sources) && c == c)) not_taken ∙ ap (λ t. t && c == c) not_done

    pub left_to_cut : 0 < get_or p.left pair 0
    left_to_cut = some_left g a (taking head first.queue c sources j) p.left h.search.counted pair c pair_leads.0 pair_leads.1 whole

    next_edge : (q s : ℕ) → with_edge (taking head first.queue c sources j) pair c q s ≡ taking head first.queue c sources (j + 1) q s
    next_edge q s = both (list_any (◌==◌ s) (take head first.queue)) (list_any (◌==◌ q) (take j sources)) (q == pair) (s == c)
        ∙ ap (λ t. list_any (◌==◌ s) (take head first.queue) || (t && s == c)) (sym (list_any_more (◌==◌ q) sources j 0 lj))

    step : IsStep g (with_edge (taking head first.queue c sources j) pair c) head top p (after_cut g pair top p)
    step = cut_step g a (taking head first.queue c sources j) head top p h.search pair c pair_leads.0 pair_leads.1 whole h.row h.has h.rank h.long

    one_more : IsTaking g head top c sources (j + 1) first (after_cut g pair top p)
    one_more =
        let s = step in
        let became = s.refines.each c h.row h.has in
        let e : length (after_cut g pair top p).queue ≡ length (p.queue ++ s.grows.more) = ap length s.grows.is in
        let n = length-append p.queue s.grows.more in
        record {
          search = search_alike g (with_edge (taking head first.queue c sources j) pair c) (taking head first.queue c sources (j + 1)) head top (after_cut g pair top p) s.search (λ q t lq lt'. next_edge q t);
          row = became.row;
          has = became.is;
          rank = omega arith;
          long = omega arith;
          grows = record { more = h.grows.more ++ s.grows.more; is = s.grows.is ∙ (ap (λ (q : List ℕ). q ++ s.grows.more) h.grows.is ∙ append_assoc first.queue h.grows.more s.grows.more) };
        }

    pub taking_step : (q : SearchProgress) → q ≡ after_cut g pair top p → IsTaking g head top c sources (j + 1) first q
    taking_step q e = subst (IsTaking g head top c sources (j + 1) first) (sym e) one_more

  module _ (p : SearchProgress) (j : ℕ) (e : j ≡ length sources) (h : IsTaking g head top c sources j first p) where
    taken_then : take (head + 1) p.queue ≡ take head first.queue ++ c ∷ []
    taken_then = ap (take (head + 1)) h.grows.is ∙ (take-append-le (head + 1) first.queue h.grows.more (omega arith) ∙ (take_more first.queue head 0 lt ∙ ap (λ d. take head first.queue ++ d ∷ []) at))

    all_done : (q s : ℕ) → q < pairs_of g → Contains (successors_at g q) s → taking head first.queue c sources j q s ≡ is_taken (head + 1) p.queue q s
    all_done q s lq ls =
        ap (λ t. list_any (◌==◌ s) (take head first.queue) || t) (by_cell (cases_eq s c))
        ∙ (sym (list_any-append (◌==◌ s) (take head first.queue) (c ∷ [])) ∙ ap (list_any (◌==◌ s)) (sym taken_then))
      where
        by_cell : (s ≡ c) ⊎ (s ≢ c) → (list_any (◌==◌ q) (take j sources) && s == c) ≡ list_any (◌==◌ s) (c ∷ [])
        by_cell (inl f) =
            let all : take j sources ≡ sources = take_all j sources (omega arith) in
            let yes' : list_any (◌==◌ q) sources ≡ true = list_any-from_Contains nat_eq_equiv q sources ((are.exactly q).1 (lq, subst (Contains (successors_at g q)) f ls)) in
            ap (λ (xs : List ℕ). list_any (◌==◌ q) xs && s == c) all ∙ (ap (λ t. t && s == c) yes' ∙ sym (or-false (s == c)))
        by_cell (inr ne) =
            ap (λ t. list_any (◌==◌ q) (take j sources) && t) (ne_eqb s c ne) ∙ (and-false (list_any (◌==◌ q) (take j sources)) ∙ (sym (ne_eqb s c ne) ∙ sym (or-false (s == c))))

    pub taking_end : IsSearched g (head + 1) p
    taking_end = record {
      top = top;
      search = search_alike g (taking head first.queue c sources j) (is_taken (head + 1) p.queue) (head + 1) top p
          (record { queue = next_queue head top p.rows p.queue h.search.queue; counted = h.search.counted; told = h.search.told })
          all_done;
    }
