-- With every fallen cell taken, the rows of the least safe inputs are settled.
use Rattle.std.proofs.Common.{inl, inr, ◌≡◌, ◌≢◌, ℕ, ◌/◌, ◌<◌, ◌≤◌, Bool, true, false, not, ◌&&◌, nat_lt, List, [], ◌∷◌, length, get_or, Option, Some, None, All, Contains, arith, refl, sym, ◌∙◌, ap, subst}
use Rattle.std.specs.List.{range_with_len}
use Rattle.std.proofs.lemmas.Bool.{cases_lt, not-true}
use Rattle.std.proofs.lemmas.Bool.Decides.{Decides-ltb}
use Rattle.std.proofs.lemmas.List.{get_or_default}
use Rattle.std.proofs.lemmas.List.Elements.{All-contains, All-contains_itself}
use Rattle.std.proofs.lemmas.List.FromFn.{length-range_with_len, get_or-range_with_len}
use Rattle.game_core.specs.declared.game.Row.{Row}
use Rattle.game_core.specs.Game.{Game, IsGame, mark_of, pair_of, successors_of}
use Rattle.game_core.specs.Solution.{row_of, HasRow}
use Rattle.game_core.specs.Fallen.{is_obstacle, LeadsToRows, IsStable, AreStable}
use Rattle.game_core.specs.inside.Falling.{FallingProgress, is_live, is_safe, IsFirstSafe, AreFirstSafe, IsFalling}
use Rattle.base.proofs.Counts.{count_none, none_from_count, below_end}
use Rattle.game_core.proofs.Edges.{pair_below}
use Rattle.game_core.proofs.Falls.{cell_of_pair}
use Rattle.game_core.proofs.Rows.{successors_below}

both_true : (a b : Bool) → (a && b) ≡ true → (a ≡ true) × (b ≡ true)
both_true true b e = (refl, e)
both_true false b e = absurd (cc)

module _ (g : Game) (a : IsGame g) (head : ℕ) (p : FallingProgress) (h : IsFalling g g.cells head p) (all : length p.queue ≤ head) (rows : List (Option Row)) (first : AreFirstSafe g p.safe rows) where
  -- a cell has a row exactly where it isn't in the queue
  no_safe_pair : (c : ℕ) → c < g.cells → ((u : ℕ) → u < g.inputs → is_safe p.safe (pair_of g c u) ≡ false) → Contains p.queue c
  no_safe_pair c lt none =
      let zero = count_none (λ u. is_safe p.safe (pair_of g c u)) (range_with_len 0 g.inputs) (λ i d li.
      let len = length-range_with_len 0 g.inputs in
      let at = get_or-range_with_len 0 g.inputs i d (omega arith) in
      none (get_or (range_with_len 0 g.inputs) i d) (omega arith)) in
      h.fallen.queued c lt (omega arith)

  rowless : (c : ℕ) → c < g.cells → Contains p.queue c → HasRow rows c → ⊥
  rowless c lt has (row, e) =
      let is : IsFirstSafe g p.safe c (Some row) = subst (IsFirstSafe g p.safe c) e (first.each c lt) in
      let count = h.safe.counted c lt in
      let none = none_from_count (λ u. is_safe p.safe (pair_of g c u)) (range_with_len 0 g.inputs) (omega arith) in
      let unsafe : is_safe p.safe (pair_of g c row.input) ≡ false = below_end (λ u. is_safe p.safe (pair_of g c u) ≡ false) g.inputs row.input is.1 none in
      cc

  -- a safe pair leads to cells with rows alone
  safe_leads : (c u : ℕ) → c < g.cells → u < g.inputs → is_safe p.safe (pair_of g c u) ≡ true → All (HasRow rows) (successors_of g c u)
  safe_leads c u lt lu safe i d li = by_row (get_or (successors_of g c u) i d) below (All-contains_itself (successors_of g c u) i d li) (row_of rows (get_or (successors_of g c u) i d)) refl (first.each (get_or (successors_of g c u) i d) below)
    where
      below : get_or (successors_of g c u) i d < g.cells
      below = successors_below g a (pair_of g c u) i d li

      by_row : (s : ℕ) → s < g.cells → Contains (successors_of g c u) s → (o : Option Row) → row_of rows s ≡ o → IsFirstSafe g p.safe s o → HasRow rows s
      by_row s ls to (Some row) e is = (row, e)
      by_row s ls to None e none =
          let position = no_safe_pair s ls none in
          let same : get_or p.queue position.0 0 ≡ s = get_or_default p.queue position.0 0 s position.1 ∙ position.2 in
          absurd (h.taken position.0 (pair_of g c u) (omega arith) (pair_below g c u lt lu) safe (subst (Contains (successors_of g c u)) (sym same) to))

  enabled_if : (xs : List ℕ) → nat_lt 0 (length xs) ≡ true → xs ≢ []
  enabled_if [] e f = absurd (let z : false ≡ true = e in cc)
  enabled_if (x ∷ xs) e f = cc

  live : (c u : ℕ) → u < g.inputs → is_live g (pair_of g c u) ≡ true → (successors_of g c u ≢ []) × (is_obstacle (mark_of g c) ≡ false)
  live c u lu e =
      let parts = both_true (nat_lt 0 (length (successors_of g c u))) (not (is_obstacle (mark_of g (pair_of g c u / g.inputs)))) e in
      let here : not (is_obstacle (mark_of g c)) ≡ true = ap (λ c. not (is_obstacle (mark_of g c))) (sym (cell_of_pair g c u lu)) ∙ parts.1 in
      (enabled_if (successors_of g c u) parts.0, not-true (is_obstacle (mark_of g c)) here)

  held : (c : ℕ) → c < g.cells → (o : Option Row) → IsFirstSafe g p.safe c o → IsStable g rows c o
  held c lt None none = h.fallen.falls c (no_safe_pair c lt none)
  held c lt (Some row) is =
      let alive = live c row.input is.1 (h.safe.live (pair_of g c row.input) (pair_below g c row.input lt is.1) is.2) in
      record {
        clear = λ m. let f = alive.1 in let t : is_obstacle (mark_of g c) ≡ true = ap is_obstacle m in cc;
        rank = is.0;
        leads = ((is.1, alive.0), safe_leads c row.input lt is.1 is.2);
        least = λ v leads.
            elim (cases_lt v row.input) [
              | inr ge ↦ ge
              | inl less ↦ absurd (sooner v less alive.1 leads)
            ];
      }
    where
      sooner : (v : ℕ) → v < row.input → is_obstacle (mark_of g c) ≡ false → LeadsToRows g rows c v → ⊥
      sooner v less clear leads =
          let lv = leads.0.0 in
          let here : not (is_obstacle (mark_of g (pair_of g c v / g.inputs))) ≡ true = ap (λ c. not (is_obstacle (mark_of g c))) (cell_of_pair g c v lv) ∙ ap not clear in
          let some' : nat_lt 0 (length (successors_of g c v)) ≡ true = full (successors_of g c v) leads.0.1 in
          let alive : is_live g (pair_of g c v) ≡ true = ap (λ b. b && not (is_obstacle (mark_of g (pair_of g c v / g.inputs)))) some' ∙ here in
          let gone = h.safe.closed (pair_of g c v) (pair_below g c v lt lv) alive (is.3 v less) in
          let below = All-contains (λ s. s < g.cells) (successors_of g c v) gone.0 (successors_below g a (pair_of g c v)) gone.1 in
          rowless gone.0 below gone.2 (All-contains (HasRow rows) (successors_of g c v) gone.0 leads.1 gone.1)
        where
          full : (xs : List ℕ) → xs ≢ [] → nat_lt 0 (length xs) ≡ true
          full [] ne = absurd (ne refl)
          full (x ∷ xs) ne = (Decides-ltb 0 (length (x ∷ xs))).1 (omega arith)

  pub settled : AreStable g rows
  settled = record { one_each = first.one_each; each = λ c lt. held c lt (row_of rows c) (first.each c lt) }
