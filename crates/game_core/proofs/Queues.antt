-- The queue as cells get rows.
use Rattle.std.proofs.Common.{inl, inr, ◌≡◌, ◌≢◌, ℕ, suc, ◌+◌, ◌<◌, ◌≤◌, ◌⊎◌, List, [], ◌∷◌, ◌++◌, length, get_or, set, Option, Some, None, Contains, arith, sym, ◌∙◌, ap, subst}
use Rattle.std.proofs.lemmas.Bool.{cases_lt}
use Rattle.std.proofs.lemmas.List.{get_or_append_left, get_or_default, get_or_push, length_push}
use Rattle.std.proofs.lemmas.List.Quantifiers.{all_pairs_push}
use Rattle.std.proofs.lemmas.List.Elements.{Contains-get_or, Contains-append_left, Contains-push, Contains-push_cases}
use Rattle.game_core.proofs.Rows.{row_after_set, count_first, count_again}
use Rattle.game_core.specs.declared.game.Row.{Row}
use Rattle.game_core.specs.Solution.{row_of, rank_at, rank_in}
use Rattle.game_core.specs.inside.Search.{IsQueue}

-- no row is above the top rank, where the one that comes is not
none_above : (head top c : ℕ) (row : Row) (rows : List (Option Row)) (queue : List ℕ) → IsQueue head top rows queue → c < length rows → row.rank ≤ top → (s : ℕ) (r : Row) → row_of (set rows c (Some row)) s ≡ Some r → r.rank ≤ top
none_above head top c row rows queue h lt low s r e =
    elim (row_after_set rows c (Some row) s lt) [
      | inl here ↦
          let same : row ≡ r = (let a = here.1 in cc) in
          omega (arith, ap (λ x. x.rank) same)
      | inr there ↦ h.highest s r (sym there.1 ∙ e)
    ]

-- a cell without a row gets one of the top rank
module _ (head top c : ℕ) (row : Row) (rows : List (Option Row)) (queue : List ℕ) (h : IsQueue head top rows queue) (lt : c < length rows) (none : row_of rows c ≡ None) (rank : row.rank ≡ top) (long : top ≤ length queue) where
  -- the others keep their rows
  kept_row : (s : ℕ) (old : Row) → row_of rows s ≡ Some old → row_of (set rows c (Some row)) s ≡ Some old
  kept_row s old e =
      elim (row_after_set rows c (Some row) s lt) [
        | inl here ↦ let n : row_of rows s ≡ None = ap (row_of rows) here.0 ∙ none in cc
        | inr there ↦ there.1 ∙ e
      ]

  old_rank : (i d : ℕ) → i < length queue → rank_at (set rows c (Some row)) (get_or (queue ++ c ∷ []) i d) ≡ rank_at rows (get_or queue i d)
  old_rank i d li =
      let has = h.has_row (get_or queue i d) (Contains-get_or queue i d li) in
      let now = kept_row (get_or queue i d) has.0 has.1 in
      ap (rank_at (set rows c (Some row))) (get_or_append_left queue (c ∷ []) d i li) ∙ (ap rank_in now ∙ sym (ap rank_in has.1))

  new_rank : (i d : ℕ) → length queue ≡ i → rank_at (set rows c (Some row)) (get_or (queue ++ c ∷ []) i d) ≡ top
  new_rank i d e =
      let at : get_or (queue ++ c ∷ []) i d ≡ c = get_or_push queue c d i e in
      elim (row_after_set rows c (Some row) (get_or (queue ++ c ∷ []) i d) lt) [
        | inl here ↦ ap rank_in here.1 ∙ rank
        | inr there ↦ absurd (there.0 at)
      ]

  low_rank : (i d : ℕ) → i < length queue → rank_at rows (get_or queue i d) ≤ top
  low_rank i d li =
      let has = h.has_row (get_or queue i d) (Contains-get_or queue i d li) in
      omega (arith, ap rank_in has.1, h.highest (get_or queue i d) has.0 has.1)

  pub settle_queue : IsQueue head top (set rows c (Some row)) (queue ++ c ∷ [])
  settle_queue = record {
    has_row = λ s h'. row_of_queued s (Contains-push_cases queue c s h');
    has_position = λ s r e. position_of s r e (row_after_set rows c (Some row) s lt);
    once = all_pairs_push (λ a b. a ≢ b) queue c h.once (λ k d lk e. let has = h.has_row (get_or queue k d) (Contains-get_or queue k d lk) in let n : row_of rows (get_or queue k d) ≡ None = ap (row_of rows) e ∙ none in let b = has.1 in cc);
    size = let a = length_push queue c in let b = h.size in let n = count_first rows c row lt none in omega arith;
    rising = λ i j d le lj. let n = length_push queue c in
        elim (cases_lt j (length queue)) [
          | inl l ↦ let a = old_rank i d (omega arith) in let b = old_rank j d l in let r = h.rising i j d le l in omega arith
          | inr g ↦ let b = new_rank j d (omega arith) in
              elim (cases_lt i (length queue)) [
                | inl l ↦ let a = old_rank i d l in let r = low_rank i d l in omega arith
                | inr gi ↦ let a = new_rank i d (omega arith) in omega arith
              ]
        ];
    short = λ i d li. let n = length_push queue c in
        elim (cases_lt i (length queue)) [
          | inl l ↦ let a = old_rank i d l in let r = h.short i d l in omega arith
          | inr g ↦ let a = new_rank i d (omega arith) in omega arith
        ];
    rest = λ i d hi li. let n = length_push queue c in
        elim (cases_lt i (length queue)) [
          | inl l ↦ let a = old_rank i d l in let r = h.rest i d hi l in omega arith
          | inr g ↦ let a = new_rank i d (omega arith) in omega arith
        ];
    highest = none_above head top c row rows queue h lt (omega (arith, rank));
  }
    where
      row_of_queued : (s : ℕ) → Contains queue s ⊎ (c ≡ s) → (r : Row) × (row_of (set rows c (Some row)) s ≡ Some r)
      row_of_queued s (inl q) = let has = h.has_row s q in (has.0, kept_row s has.0 has.1)
      row_of_queued s (inr e) =
          elim (row_after_set rows c (Some row) s lt) [
            | inl here ↦ (row, here.1)
            | inr there ↦ absurd (there.0 (sym e))
          ]

      position_of : (s : ℕ) (r : Row) → row_of (set rows c (Some row)) s ≡ Some r → ((s ≡ c) × (row_of (set rows c (Some row)) s ≡ Some row)) ⊎ ((s ≢ c) × (row_of (set rows c (Some row)) s ≡ row_of rows s)) → Contains (queue ++ c ∷ []) s
      position_of s r e (inl here) = subst (Contains (queue ++ c ∷ [])) (sym here.0) (Contains-push queue c)
      position_of s r e (inr there) = Contains-append_left queue (c ∷ []) s (h.has_position s r (sym there.1 ∙ e))

-- a cell with a row gets another of the same rank
module _ (head top c : ℕ) (old row : Row) (rows : List (Option Row)) (queue : List ℕ) (h : IsQueue head top rows queue) (lt : c < length rows) (some : row_of rows c ≡ Some old) (rank : row.rank ≡ old.rank) where
  same_rank_after : (s : ℕ) → rank_at (set rows c (Some row)) s ≡ rank_at rows s
  same_rank_after s =
      elim (row_after_set rows c (Some row) s lt) [
        | inl here ↦ ap rank_in here.1 ∙ (rank ∙ sym (ap rank_in (ap (row_of rows) here.0 ∙ some)))
        | inr there ↦ ap rank_in there.1
      ]

  pub improve_queue : IsQueue head top (set rows c (Some row)) queue
  improve_queue = record {
    has_row = λ s q. let has = h.has_row s q in
        elim (row_after_set rows c (Some row) s lt) [
          | inl here ↦ (row, here.1)
          | inr there ↦ (has.0, there.1 ∙ has.1)
        ];
    has_position = λ s r e.
        elim (row_after_set rows c (Some row) s lt) [
          | inl here ↦ h.has_position s old (ap (row_of rows) here.0 ∙ some)
          | inr there ↦ h.has_position s r (sym there.1 ∙ e)
        ];
    once = h.once;
    size = h.size ∙ sym (count_again rows c old row lt some);
    rising = λ i j d le lj. let a = same_rank_after (get_or queue i d) in let b = same_rank_after (get_or queue j d) in let r = h.rising i j d le lj in omega arith;
    short = λ i d li. let a = same_rank_after (get_or queue i d) in let r = h.short i d li in omega arith;
    rest = λ i d hi li. let a = same_rank_after (get_or queue i d) in let r = h.rest i d hi li in omega arith;
    highest = none_above head top c row rows queue h lt (let le = h.highest c old some in omega (arith, le, rank));
  }

-- the cell at the head is taken next: rows of one rank more may come
module _ (head top : ℕ) (rows : List (Option Row)) (queue : List ℕ) (h : IsQueue head top rows queue) (d : ℕ) (lt : head < length queue) where
  pub raised_top : top ≤ suc (rank_at rows (get_or queue head d))
  raised_top = h.rest head d (omega arith) lt

  pub raise_queue : IsQueue head (suc (rank_at rows (get_or queue head d))) rows queue
  raise_queue = record {
    has_row = h.has_row;
    has_position = h.has_position;
    once = h.once;
    size = h.size;
    rising = h.rising;
    short = h.short;
    rest = λ i e hi li. let r = h.rising head i d hi li in let same = ap (rank_at rows) (get_or_default queue i d e li) in omega arith;
    highest = λ s r e. let a = h.highest s r e in let b = raised_top in omega arith;
  }

-- one more cell is taken
pub next_queue : (head top : ℕ) (rows : List (Option Row)) (queue : List ℕ) → IsQueue head top rows queue → IsQueue (head + 1) top rows queue
next_queue head top rows queue h = record {
  has_row = h.has_row;
  has_position = h.has_position;
  once = h.once;
  size = h.size;
  rising = h.rising;
  short = h.short;
  rest = λ i d hi li. h.rest i d (omega arith) li;
  highest = h.highest;
}
