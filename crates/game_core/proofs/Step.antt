-- A search goes on being right as one successor more is cut.
use Rattle.std.proofs.Common.{inl, inr, ◌≡◌, ◌≢◌, ℕ, zero, suc, ◌-◌, ◌/◌, ◌%◌, ◌<◌, ◌≤◌, ◌⊎◌, Bool, true, false, not, cond, ◌==◌, ◌&&◌, nat_lt, List, [], ◌∷◌, ◌++◌, length, get_or, set, count_by, Option, Some, None, All, Contains, arith, refl, sym, ◌∙◌, ap, subst, length-set, append-nil, get_or-set_same}
use Rattle.std.proofs.lemmas.Bool.{cases_lt, not-false}
use Rattle.std.proofs.lemmas.Bool.Decides.{Decides-eqb, Decides-ltb}
use Rattle.std.proofs.lemmas.List.Elements.{All-weaker, Contains-get_or}
use Rattle.std.proofs.lemmas.Nat.{same_from_place}
use Rattle.base.proofs.Counts.{count_none, none_from_count}
use Rattle.game_core.proofs.Edges.{HasParts, parts_of, with_edge, edge_cases, counted_less}
use Rattle.game_core.proofs.Queues.{settle_queue, improve_queue}
use Rattle.game_core.proofs.Rows.{row_after_set}
use Rattle.game_core.proofs.Told.{Refines, refines_itself, below_after, sound_after, told_step}
use Rattle.game_core.specs.declared.game.Mark.{Mark}
use Rattle.game_core.specs.declared.game.Mark.TheVariants.{Goal, Obstacle, Plain}
use Rattle.game_core.specs.declared.game.Row.{Row}
use Rattle.game_core.specs.Game.{Game, IsGame, IsEnabled, mark_of, pair_of, pairs_of, successors_at, successors_of}
use Rattle.game_core.specs.Solution.{row_of, HasRowBelow}
use Rattle.game_core.specs.inside.Search.{SearchProgress, with_row, with_offer_to, with_offer_at, with_pair_done, with_one_less, after_cut, HasRowAtMost, IsSoundRow, IsGoalRow, IsCounted, IsTold, IsSearch}

-- the queue gets cells at its end alone
pub record Grows (p q : SearchProgress) : Type 0 where
  pub more : List ℕ
  pub is : q.queue ≡ p.queue ++ more

-- what one cut leads to
pub record IsStep (g : Game) (cut : ℕ → ℕ → Bool) (head top : ℕ) (p q : SearchProgress) : Type 0 where
  pub search : IsSearch g cut head top q
  pub refines : Refines p.rows q.rows
  pub grows : Grows p q

module _ (g : Game) (a : IsGame g) (cut : ℕ → ℕ → Bool) (head top : ℕ) (p : SearchProgress) (h : IsSearch g cut head top p) (pair c : ℕ) (lt : pair < pairs_of g) (leads : Contains (successors_at g pair) c) (whole : cut pair c ≡ false) (row : Row) (has : row_of p.rows c ≡ Some row) (rank : suc row.rank ≡ top) (long : top ≤ length p.queue) where
  abbrev after : ℕ → ℕ → Bool
  after = with_edge cut pair c

  abbrev cell : ℕ
  cell = pair / g.inputs

  abbrev input : ℕ
  input = pair % g.inputs

  abbrev less : List ℕ
  less = set p.left pair (get_or p.left pair 0 - 1)

  parts : HasParts g pair
  parts = parts_of g pair lt

  counted_then : IsCounted g after less
  counted_then = counted_less g a cut p.left h.counted pair c lt leads whole

  left_then : get_or less pair 0 ≡ count_by (λ s. not (after pair s)) (successors_at g pair)
  left_then = counted_then.counts pair lt

  -- the rows as they are are right where the pair resolves to nothing
  same_rows : ((d v : ℕ) → pair_of g d v ≡ pair → v < g.inputs → mark_of g d ≡ Plain → All (λ s. after pair s ≡ true) (successors_at g pair) → ⊥) → IsStep g after head top p (with_one_less pair p)
  same_rows never = record {
    search = record {
      queue = h.queue;
      counted = counted_then;
      told = told_step g cut top p.rows p.rows h.told (refines_itself p.rows) refl h.told.goals h.told.sound pair c lt leads row has rank (λ d v ld e plain enabled all. absurd (never d v e enabled.0 plain all));
    };
    refines = refines_itself p.rows;
    grows = record { more = []; is = sym (append-nil p.queue) };
  }

  module _ (done : count_by (λ s. not (after pair s)) (successors_at g pair) ≡ 0) where
    all_after : All (λ s. after pair s ≡ true) (successors_at g pair)
    all_after i d li = not-false (after pair (get_or (successors_at g pair) i d)) (none_from_count (λ s. not (after pair s)) (successors_at g pair) done i d li)

    each_below : All (HasRowBelow p.rows top) (successors_at g pair)
    each_below i d li =
        let s = get_or (successors_at g pair) i d in
        elim (edge_cases cut pair c pair s (all_after i d li)) [
          | inl was ↦ h.told.lower pair s lt (Contains-get_or (successors_at g pair) i d li) was
          | inr now ↦ record { row = row; is = ap (row_of p.rows) now.1 ∙ has; below = omega arith }
        ]

    abbrev resolved_row : Row
    resolved_row = record { rank = top; input = input }

    module _ (plain : mark_of g cell ≡ Plain) where
      cell_has_position : cell < length p.rows
      cell_has_position = let n = h.told.one_each in let l = parts.cell in omega arith

      -- the rows with the cell's new row
      module _ (new : Row) (f : Refines p.rows (set p.rows cell (Some new))) (sound_new : IsSoundRow g (set p.rows cell (Some new)) cell new.rank new.input) (within : new.rank ≤ top) (least : new.rank ≡ top → new.input ≤ input) where
        goals_then : (d : ℕ) → d < g.cells → mark_of g d ≡ Goal → IsGoalRow (set p.rows cell (Some new)) d
        goals_then d ld goal =
            elim (row_after_set p.rows cell (Some new) d cell_has_position) [
              | inl here ↦ absurd (let e : mark_of g d ≡ Plain = ap (mark_of g) here.0 ∙ plain in cc)
              | inr there ↦ there.1 ∙ h.told.goals d ld goal
            ]

        sound_at : (d : ℕ) (r : Row) → row_of (set p.rows cell (Some new)) d ≡ Some r → ((d ≡ cell) × (row_of (set p.rows cell (Some new)) d ≡ Some new)) ⊎ ((d ≢ cell) × (row_of (set p.rows cell (Some new)) d ≡ row_of p.rows d)) → IsSoundRow g (set p.rows cell (Some new)) d r.rank r.input
        sound_at d r e (inl here) =
            let same : new ≡ r = (let b = here.1 in cc) in
            subst (λ d. IsSoundRow g (set p.rows cell (Some new)) d r.rank r.input) (sym here.0)
            (subst (λ (r : Row). IsSoundRow g (set p.rows cell (Some new)) cell r.rank r.input) same sound_new)
        sound_at d r e (inr there) = sound_after g p.rows (set p.rows cell (Some new)) f d r.rank r.input (h.told.sound d r (sym there.1 ∙ e))

        newly : (d v : ℕ) → d < g.cells → pair_of g d v ≡ pair → mark_of g d ≡ Plain → IsEnabled g d v → All (λ s. after pair s ≡ true) (successors_at g pair) → HasRowAtMost (set p.rows cell (Some new)) top v d
        newly d v ld e pd enabled all =
            let position = same_from_place d v cell input g.inputs enabled.0 parts.input (e ∙ sym parts.is) in
            elim (row_after_set p.rows cell (Some new) d cell_has_position) [
              | inl here ↦ record { row = new; is = here.1; within = within; least = λ k. let l = least k in omega arith }
              | inr there ↦ absurd (there.0 position.0)
            ]

        told_with : IsTold g after top (set p.rows cell (Some new))
        told_with = told_step g cut top p.rows (set p.rows cell (Some new)) h.told f (length-set p.rows cell (Some new)) goals_then (λ d r e. sound_at d r e (row_after_set p.rows cell (Some new) d cell_has_position)) pair c lt leads row has rank newly

      -- the row that the pair offers is sound
      offer_is_sound : (rows : List (Option Row)) → Refines p.rows rows → (k : ℕ) → k ≡ top → IsSoundRow g rows cell k input
      offer_is_sound rows f zero e = absurd (omega arith)
      offer_is_sound rows f (suc k) e = (
        (λ m. cc),
        (parts.input, λ n. let l = leads.1 in let z : length (successors_of g cell input) ≡ 0 = ap length n in let same : length (successors_of g cell input) ≡ length (successors_at g pair) = ap (λ q. length (successors_at g q)) parts.is in omega arith),
        subst (λ q. All (HasRowBelow rows (suc k)) (successors_at g q)) (sym parts.is)
            (subst (λ t. All (HasRowBelow rows t) (successors_at g pair)) (sym e)
            (All-weaker (HasRowBelow p.rows top) (HasRowBelow rows top) (λ s r. below_after p.rows rows f top s r) (successors_at g pair) each_below)),
      )

      first_refines : row_of p.rows cell ≡ None → (new : Row) → Refines p.rows (set p.rows cell (Some new))
      first_refines none new = record {
        each = λ s r e.
            elim (row_after_set p.rows cell (Some new) s cell_has_position) [
              | inl here ↦ absurd (let n : row_of p.rows s ≡ None = ap (row_of p.rows) here.0 ∙ none in cc)
              | inr there ↦ record { row = r; is = there.1 ∙ e; rank_stays = refl; input_falls = omega arith }
            ];
      }

      next_refines : (old new : Row) → row_of p.rows cell ≡ Some old → new.rank ≡ old.rank → new.input ≤ old.input → Refines p.rows (set p.rows cell (Some new))
      next_refines old new some k u = record {
        each = λ s r e.
            elim (row_after_set p.rows cell (Some new) s cell_has_position) [
              | inl here ↦
                  let same : old ≡ r = (let n : row_of p.rows s ≡ Some old = ap (row_of p.rows) here.0 ∙ some in cc) in
                  let ranks : old.rank ≡ r.rank = ap (λ x. x.rank) same in
                  let inputs : old.input ≡ r.input = ap (λ x. x.input) same in
                  record { row = new; is = here.1; rank_stays = omega arith; input_falls = omega arith }
              | inr there ↦ record { row = r; is = there.1 ∙ e; rank_stays = refl; input_falls = omega arith }
            ];
      }

      offer_first : row_of p.rows cell ≡ None → IsStep g after head top p (with_row cell resolved_row (with_one_less pair p))
      offer_first none =
          let f = first_refines none resolved_row in
          record {
            search = record {
              queue = settle_queue head top cell resolved_row p.rows p.queue h.queue cell_has_position none refl long;
              counted = counted_then;
              told = told_with resolved_row f (offer_is_sound (set p.rows cell (Some resolved_row)) f top refl) (omega arith) (λ e. omega arith);
            };
            refines = f;
            grows = record { more = cell ∷ []; is = refl };
          }

      improved : (old new : Row) → row_of p.rows cell ≡ Some old → new.rank ≡ old.rank → new.input ≤ old.input → (Refines p.rows (set p.rows cell (Some new)) → IsSoundRow g (set p.rows cell (Some new)) cell new.rank new.input) → (new.rank ≡ top → new.input ≤ input) → IsStep g after head top p (record { left = less; rows = set p.rows cell (Some new); queue = p.queue })
      improved old new some k u sound_new least =
          let f = next_refines old new some k u in
          let high = h.queue.highest cell old some in
          record {
            search = record {
              queue = improve_queue head top cell old new p.rows p.queue h.queue cell_has_position some k;
              counted = counted_then;
              told = told_with new f (sound_new f) (omega arith) least;
            };
            refines = f;
            grows = record { more = []; is = sym (append-nil p.queue) };
          }

      offer_next : (old : Row) → row_of p.rows cell ≡ Some old → IsStep g after head top p (with_offer_to (Some old) cell resolved_row (with_one_less pair p))
      offer_next old some = by_tests (old.rank == top) (nat_lt input old.input) refl refl
        where
          by_tests : (s t : Bool) → (old.rank == top) ≡ s → nat_lt input old.input ≡ t → IsStep g after head top p (record { left = less; rows = set p.rows cell (Some (cond (s && t) resolved_row old)); queue = p.queue })
          by_tests true true es et =
              let k = (Decides-eqb old.rank top).0 es in
              let u = (Decides-ltb input old.input).0 et in
              improved old resolved_row some (sym k) (omega arith) (λ f. offer_is_sound (set p.rows cell (Some resolved_row)) f top refl) (λ e. omega arith)
          by_tests true false es et =
              improved old old some refl (omega arith) (λ f. sound_after g p.rows (set p.rows cell (Some old)) f cell old.rank old.input (h.told.sound cell old some)) (λ e. not_below et)
            where
              not_below : nat_lt input old.input ≡ false → old.input ≤ input
              not_below e = elim (cases_lt input old.input) [
                | inl l ↦ absurd (let b = (Decides-ltb input old.input).1 l in cc)
                | inr ge ↦ ge
              ]
          by_tests false t es et =
              improved old old some refl (omega arith) (λ f. sound_after g p.rows (set p.rows cell (Some old)) f cell old.rank old.input (h.told.sound cell old some)) (λ e. absurd (let b = (Decides-eqb old.rank top).1 e in cc))

      offer_step : IsStep g after head top p (with_offer_to (row_of p.rows cell) cell resolved_row (with_one_less pair p))
      offer_step = by_row (row_of p.rows cell) refl
        where
          by_row : (o : Option Row) → row_of p.rows cell ≡ o → IsStep g after head top p (with_offer_to o cell resolved_row (with_one_less pair p))
          by_row None e = offer_first e
          by_row (Some old) e = offer_next old e

    resolve_step : IsStep g after head top p (with_pair_done g pair top (with_one_less pair p))
    resolve_step = by_mark (mark_of g cell) refl
      where
        never : mark_of g cell ≢ Plain → (d v : ℕ) → pair_of g d v ≡ pair → v < g.inputs → mark_of g d ≡ Plain → All (λ s. after pair s ≡ true) (successors_at g pair) → ⊥
        never other d v e lv plain all =
            let position = same_from_place d v cell input g.inputs lv parts.input (e ∙ sym parts.is) in
            other (sym (ap (mark_of g) position.0) ∙ plain)

        by_mark : (m : Mark) → mark_of g cell ≡ m → IsStep g after head top p (with_offer_at m cell resolved_row (with_one_less pair p))
        by_mark Goal e = same_rows (never (λ n. cc))
        by_mark Obstacle e = same_rows (never (λ n. cc))
        by_mark Plain e = offer_step e

  pub cut_step : IsStep g after head top p (after_cut g pair top p)
  cut_step = by_test (get_or p.left pair 0 - 1 == 0) refl
    where
      written : get_or less pair 0 ≡ get_or p.left pair 0 - 1
      written = let n = h.counted.one_each in get_or-set_same p.left pair (get_or p.left pair 0 - 1) 0 (omega arith)

      by_test : (t : Bool) → (get_or p.left pair 0 - 1 == 0) ≡ t → IsStep g after head top p (cond t (with_pair_done g pair top (with_one_less pair p)) (with_one_less pair p))
      by_test true e = let z = (Decides-eqb (get_or p.left pair 0 - 1) 0).0 e in let w = written in let l = left_then in resolve_step (omega arith)
      by_test false e = same_rows (λ d v e' lv plain all. absurd (
          let none = count_none (λ s. not (after pair s)) (successors_at g pair) (λ i d' li. ap not (all i d' li)) in
          let w = written in
          let l = left_then in
          cc))
