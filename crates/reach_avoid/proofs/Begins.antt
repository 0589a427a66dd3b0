-- Before the first round, and how the rounds come to an end.
use Rattle.std.proofs.Common.{inl, inr, ◌≡◌, ℕ, suc, ◌-◌, ◌/◌, ◌<◌, ◌≤◌, ◌==◌, Bool, true, false, cond, List, [], ◌∷◌, map, filter, length, get_or, All, IsPermutation, Option, Some, None, arith, refl, sym, ◌∙◌, ap, subst, le-ltb}
use Rattle.std.specs.List.{range_with_len}
use Rattle.std.proofs.lemmas.Bool.{cases_lt, cases_eq, eqb-true}
use Rattle.std.proofs.lemmas.List.{length-map}
use Rattle.std.proofs.lemmas.List.Elements.{All-head, All-tail, All-nil, All-map, All-filter, All-weaker, Contains-get_or}
use Rattle.std.proofs.lemmas.List.FromFn.{length-range_with_len}
use Rattle.std.proofs.lemmas.List.Sums.{count_by-le-length, sum_by-le}
use Rattle.std.proofs.lemmas.List.Sorted.{IsPermutation-refl}
use Rattle.cell_counters.specs.declared.account.TheConstants.{NONE}
use Rattle.cell_counters.specs.declared.account.Cut.{Cut}
use Rattle.cell_counters.specs.declared.account.Offer.{Offer}
use Rattle.cell_counters.specs.declared.account.Log.{Log}
use Rattle.cell_counters.specs.declared.account.Account.{Account}
use Rattle.cell_counters.specs.Accounts.{all_offers, first_count, all_logs, log_count, IsLawfulLeast}
use Rattle.cell_counters.proofs.Consequences.{nothing_done}
use Rattle.game_core.specs.Counts.{times, one_if}
use Rattle.game_core.specs.declared.game.Mark.{Mark}
use Rattle.game_core.specs.declared.game.Mark.TheVariants.{Goal, Obstacle, Plain}
use Rattle.game_core.specs.declared.game.Row.{Row}
use Rattle.game_core.specs.Game.{Game, IsGraph, mark_of, pairs_of, successors_at}
use Rattle.game_core.specs.Solution.{row_of}
use Rattle.game_core.specs.Tally.{all_pairs}
use Rattle.base.proofs.Counts.{sum_zeros}
use Rattle.game_core.proofs.Times.{counts_agree}
use Rattle.board_rounds.specs.Crew.{offers_in, logged_cells, claimed_words}
use Rattle.board_rounds.proofs.Accounts.{firsts_are}
use Rattle.board_rounds.proofs.Graphs.{few_successors}
use Rattle.board_rounds.proofs.Sums.{All-range}
use Rattle.reach_avoid.specs.ReachBoards.{word_at}
use Rattle.reach_avoid.specs.inside.ReachRounds.{row_in, word_after, decoded_rows, below_in, rank_is, count_ranked_below, is_done, due_offers, IsLawfulFor, IsDueOffer, IsReached, is_goal, goals_of, IsFull, IsNext}
use Rattle.reach_avoid.proofs.Words.{row_from_word, no_row_from_word, decoded_row, word_of_row}
use Rattle.reach_avoid.proofs.Ranks.{done_parts}

filter_none : {X : Type 0} (p : X → Bool) (xs : List X) → All (λ x. p x ≡ false) xs → filter p xs ≡ []
filter_none p [] h = refl
filter_none p (x ∷ xs) h = ap (λ b. cond b (x ∷ filter p xs) (filter p xs)) (All-head (λ x. p x ≡ false) x xs h) ∙ filter_none p xs (All-tail (λ x. p x ≡ false) x xs h)

below_zero : (o : Option Row) → below_in 0 o ≡ false
below_zero None = refl
below_zero (Some row) = le-ltb row.rank 0 (omega arith)

module _ (g : Game) (a : IsGraph g) where
  none_taken : (pair : ℕ) → count_ranked_below g (decoded_rows g []) 0 pair ≡ 0
  none_taken pair = sum_zeros (λ s. one_if (below_in 0 (row_of (decoded_rows g []) s))) (successors_at g pair) (λ i d lt. ap one_if (below_zero (row_of (decoded_rows g []) (get_or (successors_at g pair) i d))))

  none_done : (pair : ℕ) → is_done g (decoded_rows g []) 0 pair ≡ false
  none_done pair = by_test (is_done g (decoded_rows g []) 0 pair) refl
    where
      by_test : (b : Bool) → is_done g (decoded_rows g []) 0 pair ≡ b → b ≡ false
      by_test false e = refl
      by_test true e = let parts = done_parts g (decoded_rows g []) 0 pair e in let some' = parts.0 in let all = parts.1 in let none' = none_taken pair in absurd (omega arith)

  first_row : (c : ℕ) → c < g.cells → (m : Mark) → mark_of g c ≡ m → row_of (decoded_rows g []) c ≡ row_in (word_at m)
  first_row c lt m e = decoded_row g [] c lt ∙ ap (λ m. row_in (word_at m)) e

  first_cells : (c : ℕ) → c < g.cells → times c (goals_of g) ≡ one_if (rank_is 0 (row_of (decoded_rows g []) c))
  first_cells c lt = counts_agree.filtered (λ c. is_goal (mark_of g c)) c (range_with_len 0 g.cells) ∙ by_mark (mark_of g c) refl
    where
      by_mark : (m : Mark) → mark_of g c ≡ m → cond (is_goal m) (times c (range_with_len 0 g.cells)) 0 ≡ one_if (rank_is 0 (row_of (decoded_rows g []) c))
      by_mark Goal m = counts_agree.in_range c 0 g.cells (omega arith) (omega arith) ∙ sym (ap (λ o. one_if (rank_is 0 o)) (first_row c lt Goal m ∙ row_from_word 1 (omega arith) (omega arith)))
      by_mark Obstacle m = sym (ap (λ o. one_if (rank_is 0 o)) (first_row c lt Obstacle m ∙ no_row_from_word 0 (inl refl)))
      by_mark Plain m = sym (ap (λ o. one_if (rank_is 0 o)) (first_row c lt Plain m ∙ no_row_from_word NONE (inr refl)))

  first_highest : (c : ℕ) (row : Row) → row_of (decoded_rows g []) c ≡ Some row → row.rank ≤ 0
  first_highest c row e = by_mark (mark_of g c) refl
    where
      by_mark : (m : Mark) → mark_of g c ≡ m → row.rank ≤ 0
      by_mark m f = let w = word_of_row g [] c row e in let same : word_after g [] c ≡ word_at m = ap word_at f in low m same w.some w.less w.rank
        where
          low : (m : Mark) → word_after g [] c ≡ word_at m → 0 < word_after g [] c → word_after g [] c < NONE → row.rank ≡ (word_after g [] c - 1) / 4096 → row.rank ≤ 0
          low Goal same some' less k = omega arith
          low Obstacle same some' less k = absurd (omega arith)
          low Plain same some' less k = absurd (omega arith)

  -- before any round the goals are on the list
  pub begins : IsReached g 0 (goals_of g) []
  begins = record {
    lawful = record {
      pairs = λ pair lt. (length (successors_at g pair), nothing_done.0 pair (length (successors_at g pair)) (let few = few_successors g a pair lt in omega arith));
      cells = λ c lt. (word_at (mark_of g c), nothing_done.1 c (word_at (mark_of g c)));
    };
    cuts = λ pair lt. sym (none_taken pair);
    no_other_cut = All-nil (λ (c : Cut). c.counter < pairs_of g);
    offers =
        let none' : due_offers g (decoded_rows g []) 0 ≡ [] = ap (map _) (filter_none (is_done g (decoded_rows g []) 0) (all_pairs g) (λ i d lt. none_done (get_or (all_pairs g) i d))) in
        subst (λ l. IsPermutation l []) (sym none') (IsPermutation-refl []);
    valued = All-nil (IsDueOffer g);
    logs = refl;
    highest = first_highest;
    cells = first_cells;
    within = All-filter (λ c. is_goal (mark_of g c)) (λ c. c < g.cells) (range_with_len 0 g.cells) (All-range g.cells);
  }

  -- a list that isn't empty has a cell of its rank
  pub full_after : (rank : ℕ) (list : List ℕ) (accounts : List Account) (new : List (Option Row)) → IsReached g rank list accounts → IsNext rank (decoded_rows g accounts) new → 0 < length list → IsFull new (suc rank)
  full_after rank list accounts new was next some' =
      let c = get_or list 0 0 in
      let lt = was.within 0 0 some' in
      let there = first_counted list some' in
      let row = row_of_rank (row_of (decoded_rows g accounts) c) (omega arith) in
      inr (c, row.0, next.stays c row.0 row.1, ap suc row.2)
    where
      first_counted : (list : List ℕ) → 0 < length list → 0 < times (get_or list 0 0) list
      first_counted list lt = counts_agree.counted (get_or list 0 0) list (Contains-get_or list 0 0 lt)

      row_of_rank : (o : Option Row) → 0 < one_if (rank_is rank o) → (row : Row) × (o ≡ Some row) × (row.rank ≡ rank)
      row_of_rank None lt = absurd (omega arith)
      row_of_rank (Some row) lt = (row, refl, eqb-true row.rank rank (is_one (row.rank == rank) lt))
        where
          is_one : (b : Bool) → 0 < one_if b → b ≡ true
          is_one true lt = refl
          is_one false lt = absurd (omega arith)

  -- each cell is logged at most once
  pub few_logs : (accounts : List Account) → IsLawfulFor g accounts → All (IsDueOffer g) (offers_in accounts) → logged_cells (all_logs accounts) ≡ claimed_words (offers_in accounts) → log_count accounts ≤ g.cells
  few_logs accounts lawful valued logs =
      let within =
      All-map (λ c. c < g.cells) (λ (o : Offer). o.word) (filter (λ (o : Offer). o.first) (offers_in accounts))
      (All-filter (λ (o : Offer). o.first) (λ (o : Offer). o.word < g.cells) (offers_in accounts)
      (All-weaker (IsDueOffer g) (λ (o : Offer). o.word < g.cells) (λ o b. b.word) (offers_in accounts) valued)) in
      let all = counts_agree.of_all_below g.cells (claimed_words (offers_in accounts)) within in
      let many : log_count accounts ≡ length (claimed_words (offers_in accounts)) = sym (length-map (all_logs accounts) (λ (l : Log). l.cell)) ∙ ap length logs in
      let in' = All-range g.cells in
      let le = sum_by-le (λ c. times c (claimed_words (offers_in accounts))) 1 (range_with_len 0 g.cells) (λ i d lt.
      let c = get_or (range_with_len 0 g.cells) i d in
      let one = at_most_one (word_at (mark_of g c)) c (lawful.cells c (in' i d lt)) in
      let e = firsts_are c accounts in
      omega arith) in
      omega (arith, length-range_with_len 0 g.cells)
    where
      at_most_one : (start c : ℕ) → (now : ℕ) × IsLawfulLeast accounts c start now → first_count (all_offers c accounts) ≤ 1
      at_most_one start c (now, h) =
          elim (cases_eq start NONE) [
            | inr other ↦ let e = h.none_first other in omega arith
            | inl free ↦
                elim (cases_lt 0 (length (all_offers c accounts))) [
                  | inl some' ↦ let e = h.one_first free some' in omega arith
                  | inr none' ↦
                      omega (arith, count_by-le-length (λ (o : Offer). o.first) (all_offers c accounts))
                ]
          ]
