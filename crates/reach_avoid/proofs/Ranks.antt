-- What a round does to the ranks of the successors of a pair.
use Rattle.std.proofs.Common.{inl, inr, ◌≡◌, ℕ, suc, ◌+◌, ◌<◌, ◌≤◌, ◌==◌, nat_lt, true, false, List, [], ◌∷◌, length, get_or, All, Option, Some, None, count_by, arith, refl, sym, ◌∙◌, ap, subst, eq-eqb, ne_eqb}
use Rattle.std.proofs.lemmas.Bool.{cases_lt, cases_eq, eqb-true, ltb-true, ltb-false, lt-ltb, le-ltb, and_parts, and_from}
use Rattle.std.proofs.lemmas.List.Elements.{All-head, All-tail, All-nil, All-cons}
use Rattle.std.proofs.lemmas.List.Sums.{count_by-le-length}
use Rattle.game_core.specs.declared.game.Row.{Row}
use Rattle.game_core.specs.Game.{Game, successors_at}
use Rattle.game_core.specs.Solution.{row_of, rank_in, rank_at, greatest, greatest_rank}
use Rattle.game_core.specs.Tally.{rank_by}
use Rattle.game_core.specs.Counts.{one_if}
use Rattle.game_core.proofs.Times.{counts_agree}
use Rattle.reach_avoid.specs.inside.ReachRounds.{below_in, rank_is, count_ranked_below, is_done, IsNext}

pub done_parts : (g : Game) (rows : List (Option Row)) (k pair : ℕ) → is_done g rows k pair ≡ true → (0 < length (successors_at g pair)) × (count_ranked_below g rows k pair ≡ length (successors_at g pair))
done_parts g rows k pair e =
    let both = and_parts (nat_lt 0 (length (successors_at g pair))) (count_ranked_below g rows k pair == length (successors_at g pair)) e in
    (ltb-true 0 (length (successors_at g pair)) both.0, eqb-true (count_ranked_below g rows k pair) (length (successors_at g pair)) both.1)

pub done_from : (g : Game) (rows : List (Option Row)) (k pair : ℕ) → 0 < length (successors_at g pair) → count_ranked_below g rows k pair ≡ length (successors_at g pair) → is_done g rows k pair ≡ true
done_from g rows k pair lt e =
    and_from (nat_lt 0 (length (successors_at g pair))) (count_ranked_below g rows k pair == length (successors_at g pair)) (lt-ltb 0 (length (successors_at g pair)) lt) (eq-eqb (count_ranked_below g rows k pair) (length (successors_at g pair)) e)

-- a pair that isn't done has no successor or one that isn't taken
pub not_done : (g : Game) (rows : List (Option Row)) (k pair : ℕ) → is_done g rows k pair ≡ false → 0 < length (successors_at g pair) → count_ranked_below g rows k pair < length (successors_at g pair)
not_done g rows k pair e lt =
    let most = count_by-le-length (λ s. below_in k (row_of rows s)) (successors_at g pair) in
    elim (cases_eq (count_ranked_below g rows k pair) (length (successors_at g pair))) [
      | inl same ↦ absurd (let yes = done_from g rows k pair lt same in cc)
      | inr ne ↦ omega arith
    ]

-- a row of a rank below k
pub row_below : (k : ℕ) (o : Option Row) → below_in k o ≡ true → (row : Row) × (o ≡ Some row) × (row.rank < k)
row_below k None e = absurd (cc)
row_below k (Some row) e = (row, refl, ltb-true row.rank k e)

pub greatest_of : (k : ℕ) (ns : List ℕ) → All (λ n. n ≤ k) ns → greatest ns ≤ k
greatest_of k [] h = omega arith
greatest_of k (n ∷ ns) h =
    omega (arith, All-head (λ n. n ≤ k) n ns h, greatest_of k ns (All-tail (λ n. n ≤ k) n ns h))

pub greatest_rank-le : (rows : List (Option Row)) (k : ℕ) (cells : List ℕ) → All (λ s. rank_at rows s ≤ k) cells → greatest_rank rows cells ≤ k
greatest_rank-le rows k [] h = omega arith
greatest_rank-le rows k (s ∷ cells) h =
    let first = All-head (λ s. rank_at rows s ≤ k) s cells h in
    let rest = greatest_rank-le rows k cells (All-tail (λ s. rank_at rows s ≤ k) s cells h) in
    omega arith

pub rank_at-le : (rows : List (Option Row)) (cells : List ℕ) → All (λ s. rank_at rows s ≤ greatest_rank rows cells) cells
rank_at-le rows [] = All-nil (λ s. rank_at rows s ≤ 0)
rank_at-le rows (s ∷ cells) =
    let rest = rank_at-le rows cells in
    All-cons (λ t. rank_at rows t ≤ greatest_rank rows (s ∷ cells)) s cells (omega arith) (λ i d lt. let r = rest i d lt in omega arith)

pub greatest_rank-same : (rows new : List (Option Row)) (cells : List ℕ) → All (λ s. rank_at rows s ≡ rank_at new s) cells → greatest_rank rows cells ≡ greatest_rank new cells
greatest_rank-same rows new [] h = refl
greatest_rank-same rows new (s ∷ cells) h =
    let first = All-head (λ s. rank_at rows s ≡ rank_at new s) s cells h in
    let rest = greatest_rank-same rows new cells (All-tail (λ s. rank_at rows s ≡ rank_at new s) s cells h) in
    omega arith

one_below : (rank n : ℕ) → one_if (nat_lt n (suc rank)) ≡ one_if (nat_lt n rank) + one_if (n == rank)
one_below rank n =
    elim (cases_eq n rank) [
      | inl e ↦
          let a : one_if (nat_lt n (suc rank)) ≡ 1 = ap one_if (lt-ltb n (suc rank) (omega arith)) in
          let b : one_if (nat_lt n rank) ≡ 0 = ap one_if (le-ltb n rank (omega arith)) in
          let c : one_if (n == rank) ≡ 1 = ap one_if (eq-eqb n rank e) in
          omega arith
      | inr ne ↦
          let c : one_if (n == rank) ≡ 0 = ap one_if (ne_eqb n rank ne) in
          elim (cases_lt n rank) [
            | inl lt ↦
                omega (arith, ap one_if (lt-ltb n (suc rank) (omega arith)), ap one_if (lt-ltb n rank lt))
            | inr ge ↦
                omega (arith, ap one_if (le-ltb n (suc rank) (omega arith)), ap one_if (le-ltb n rank ge))
          ]
    ]

module _ (g : Game) (rank : ℕ) (rows new : List (Option Row)) (next : IsNext rank rows new) where
  -- of the ranks of a cell before and after
  pub below_after : (s : ℕ) → one_if (below_in (suc rank) (row_of new s)) ≡ one_if (below_in rank (row_of rows s)) + one_if (rank_is rank (row_of rows s))
  below_after s = by_row (row_of rows s) refl
    where
      fresh : (o : Option Row) → row_of rows s ≡ None → row_of new s ≡ o → one_if (below_in (suc rank) o) ≡ 0
      fresh None none' e = refl
      fresh (Some row) none' e = let r = next.comes s row none' e in ap one_if (le-ltb row.rank (suc rank) (omega arith))

      by_row : (o : Option Row) → row_of rows s ≡ o → one_if (below_in (suc rank) (row_of new s)) ≡ one_if (below_in rank o) + one_if (rank_is rank o)
      by_row None e = fresh (row_of new s) e refl
      by_row (Some row) e = ap (λ o. one_if (below_in (suc rank) o)) (next.stays s row e) ∙ one_below rank row.rank

  -- the successors of this rank are taken besides
  pub taken_after : (pair : ℕ) → count_ranked_below g new (suc rank) pair ≡ count_ranked_below g rows rank pair + count_by (λ s. rank_is rank (row_of rows s)) (successors_at g pair)
  taken_after pair =
      counts_agree.alike (λ s. one_if (below_in (suc rank) (row_of new s))) (λ s. one_if (below_in rank (row_of rows s)) + one_if (rank_is rank (row_of rows s))) (successors_at g pair) (λ i d lt. below_after (get_or (successors_at g pair) i d))
      ∙ counts_agree.added (λ s. one_if (below_in rank (row_of rows s))) (λ s. one_if (rank_is rank (row_of rows s))) (successors_at g pair)

  pub taken_more : (pair : ℕ) → count_ranked_below g rows rank pair ≤ count_ranked_below g new (suc rank) pair
  taken_more pair = let e = taken_after pair in omega arith

  -- a pair that was done stays so, and keeps the rank that it gives
  pub done_stays : (pair : ℕ) → is_done g rows rank pair ≡ true → is_done g new (suc rank) pair ≡ true
  done_stays pair e =
      let was = done_parts g rows rank pair e in
      let some' = was.0 in
      let more = taken_more pair in
      let most = count_by-le-length (λ s. below_in (suc rank) (row_of new s)) (successors_at g pair) in
      done_from g new (suc rank) pair some' (omega arith)

  pub rank_by-stays : (pair : ℕ) → is_done g rows rank pair ≡ true → rank_by g new pair ≡ rank_by g rows pair
  rank_by-stays pair e =
      let all = counts_agree.each_passes (λ s. below_in rank (row_of rows s)) (successors_at g pair) (done_parts g rows rank pair e).1 in
      ap suc (sym (greatest_rank-same rows new (successors_at g pair) (λ i d lt.
      let s = get_or (successors_at g pair) i d in
      let row = row_below rank (row_of rows s) (all i d lt) in
      ap rank_in row.1 ∙ sym (ap rank_in (next.stays s row.0 row.1)))))

  -- a pair that is done only now gives the next rank
  pub rank_by-new : (pair : ℕ) → is_done g rows rank pair ≡ false → is_done g new (suc rank) pair ≡ true → rank_by g new pair ≡ suc rank
  rank_by-new pair before now =
      let is = done_parts g new (suc rank) pair now in
      let all = counts_agree.each_passes (λ s. below_in (suc rank) (row_of new s)) (successors_at g pair) is.1 in
      let most = greatest_rank-le new rank (successors_at g pair) (λ i d lt.
      let s = get_or (successors_at g pair) i d in
      let row = row_below (suc rank) (row_of new s) (all i d lt) in
      let e : rank_at new s ≡ row.0.rank = ap rank_in row.1 in
      let lt' = row.2 in
      omega arith) in
      let fails = counts_agree.one_fails (λ s. below_in rank (row_of rows s)) (successors_at g pair) (not_done g rows rank pair before is.0) in
      let at = fails.1 in
      let s = fails.0 in
      let here : All (λ s. rank_at new s ≤ greatest_rank new (successors_at g pair)) (successors_at g pair) = rank_at-le new (successors_at g pair) in
      let le : rank_at new (get_or (successors_at g pair) at.0 s) ≤ greatest_rank new (successors_at g pair) = here at.0 s at.1 in
      let le' : rank_at new s ≤ greatest_rank new (successors_at g pair) = subst (λ t. rank_at new t ≤ greatest_rank new (successors_at g pair)) at.2 le in
      let row = row_below (suc rank) (row_of new s) (subst (λ t. below_in (suc rank) (row_of new t) ≡ true) at.2 (all at.0 s at.1)) in
      let high = reached s row.0 (row_of rows s) refl fails.2 row.1 in
      let e : rank_at new s ≡ row.0.rank = ap rank_in row.1 in
      ap suc {x = greatest_rank new (successors_at g pair)} {y = rank} (omega arith)
    where
      reached : (s : ℕ) (row : Row) (o : Option Row) → row_of rows s ≡ o → below_in rank o ≡ false → row_of new s ≡ Some row → rank ≤ row.rank
      reached s row None was none' is = let r = next.comes s row was is in omega arith
      reached s row (Some old) was none' is =
          let ge = ltb-false old.rank rank none' in
          let kept = next.stays s old was in
          let same : Some old ≡ Some row = sym kept ∙ is in
          omega (arith, ap rank_in same)
