-- A round leads on: what stood before it stands after it, at the next rank.
use Rattle.std.proofs.Common.{inl, inr, ◌≡◌, ℕ, suc, ◌+◌, ◌-◌, ◌*◌, ◌/◌, ◌%◌, ◌^◌, ◌<◌, ◌≤◌, ◌==◌, ◌&&◌, ◌⊎◌, nat_lt, Bool, true, false, cond, List, [], ◌∷◌, ◌++◌, map, filter, length, get_or, All, IsPermutation, Option, Some, None, count_by, arith, refl, sym, ◌∙◌, ap, ap₂, subst, le-ltb}
use Rattle.std.proofs.lemmas.Bool.{cases_lt, ne_eqb, eq-eqb}
use Rattle.std.proofs.lemmas.List.{map-append, nil_from_length, length-map}
use Rattle.std.proofs.lemmas.List.Elements.{All-map, All-filter, All-weaker, All-append, All-contains, Contains-get_or, filter_passes}
use Rattle.std.proofs.lemmas.List.Sums.{count_by-le-length, sum_by-append}
use Rattle.std.proofs.lemmas.List.Sorted.{IsPermutation-map, IsPermutation-trans, IsPermutation-append_left}
use Rattle.cell_counters.specs.declared.account.TheConstants.{NONE}
use Rattle.cell_counters.specs.declared.account.Cut.{Cut}
use Rattle.cell_counters.specs.declared.account.Offer.{Offer}
use Rattle.cell_counters.specs.declared.account.Log.{Log}
use Rattle.cell_counters.specs.declared.account.Account.{Account}
use Rattle.cell_counters.specs.Accounts.{all_answers, cut_count, all_offers, first_count, values, all_logs}
use Rattle.cell_counters.specs.Laws.{times_answered}
use Rattle.cell_counters.proofs.Consequences.{new_answers, new_firsts}
use Rattle.game_core.specs.Counts.{times, one_if}
use Rattle.game_core.specs.declared.game.Mark.{Mark}
use Rattle.game_core.specs.declared.game.Mark.TheVariants.{Goal, Obstacle, Plain}
use Rattle.game_core.specs.declared.game.Row.{Row}
use Rattle.game_core.specs.Game.{Game, IsGraph, mark_of, pairs_of, successors_at}
use Rattle.game_core.specs.Solution.{row_of, rank_in}
use Rattle.game_core.specs.Tally.{all_pairs, rank_by}
use Rattle.game_core.proofs.Times.{counts_agree}
use Rattle.board_rounds.specs.Crew.{cuts_in, offers_in, logged_cells, claimed_words}
use Rattle.board_rounds.specs.Rules.{IsRound}
use Rattle.board_rounds.proofs.Accounts.{cuts_to_are, firsts_are, cuts_in-append, offers_in-append, all_logs-append, cut_count-append}
use Rattle.reach_avoid.specs.ReachBoards.{word_at}
use Rattle.reach_avoid.specs.ReachReckoned.{word_and_value, due_offer}
use Rattle.reach_avoid.specs.inside.ReachRounds.{row_in, least_from, word_after, decoded_rows, below_in, rank_is, count_ranked_below, is_done, due_offers, IsLawfulFor, IsDueOffer, IsReached, last_cuts, KeepsRule, IsNext}
use Rattle.reach_avoid.proofs.Added.{claimed-append, offers_added, logs_added, cuts_stay_below}
use Rattle.reach_avoid.proofs.Words.{least_from-le, least_from-keeps, least_from-range, row_from_word, no_row_from_word, decoded_row, cell_of_row, word_after-le, word_of_row, word_after-more}
use Rattle.reach_avoid.proofs.Ranks.{done_parts, not_done, taken_after, done_stays, rank_by-stays, rank_by-new}
use Rattle.board_rounds.proofs.Graphs.{successors_within, few_successors}
use Rattle.board_rounds.proofs.Sums.{fresh}
use Rattle.reach_avoid.proofs.Games.{IsDueOfferOf, due_offers_of, due_valued, values_of_rank, values_valued}

map_alike : {X Y : Type 0} (f h : X → Y) (xs : List X) → All (λ x. f x ≡ h x) xs → map f xs ≡ map h xs
map_alike f h [] e = refl
map_alike f h (x ∷ xs) e = ap₂ ◌∷◌ (e 0 x (omega arith)) (map_alike f h xs (λ i d lt. e (suc i) d (omega arith)))

empty_not_done : (n m : ℕ) → n ≡ 0 → (nat_lt 0 n && (m == n)) ≡ false
empty_not_done n m e = ap (λ b. b && (m == n)) (le-ltb 0 n (omega arith))

module _ (g : Game) (a : IsGraph g) (rank : ℕ) (small : rank < 2 ^ 31) (list : List ℕ) (accounts more : List Account) (was : IsReached g rank list accounts) (r : IsRound g (KeepsRule g rank) list more) (lawful : IsLawfulFor g (accounts ++ more)) where
  abbrev rows : List (Option Row)
  rows = decoded_rows g accounts

  abbrev new : List (Option Row)
  new = decoded_rows g (accounts ++ more)

  abbrev last : List ℕ
  last = last_cuts (cuts_in more)

  below_pairs : All (λ pair. pair < pairs_of g) last
  below_pairs =
      All-map (λ pair. pair < pairs_of g) (λ (c : Cut). c.counter) (filter (λ (c : Cut). c.left == 0) (cuts_in more))
      (All-filter (λ (c : Cut). c.left == 0) (λ (c : Cut). c.counter < pairs_of g) (cuts_in more) (cuts_stay_below g rank more r.each))

  offers_due : All (IsDueOfferOf g (suc rank)) (offers_in more)
  offers_due = due_offers_of g a (suc rank) (offers_in more) last below_pairs (offers_added g rank more r.each)

  pub valued_more : All (IsDueOffer g) (offers_in more)
  valued_more = All-weaker (IsDueOfferOf g (suc rank)) (IsDueOffer g) (due_valued g a (suc rank) (omega arith)) (offers_in more) offers_due

  -- a row stays
  stays : (c : ℕ) (row : Row) → row_of rows c ≡ Some row → row_of new c ≡ Some row
  stays c row e =
      let lt = cell_of_row g accounts c row e in
      let w = word_of_row g accounts c row e in
      let low = was.highest c row e in
      let range = values_of_rank g a (suc rank) c more offers_due in
      let kept = least_from-keeps (word_after g accounts c) (values (all_offers c more)) (λ i d li. let v = range i d li in let v0 = v.0 in omega arith) in
      decoded_row g (accounts ++ more) c lt ∙ (ap row_in (word_after-more g accounts more c ∙ kept) ∙ (sym (decoded_row g accounts c lt) ∙ e))

  -- the word of a cell without a row is 0 or free
  free_or_shut : (c : ℕ) → c < g.cells → row_of rows c ≡ None → (word_after g accounts c ≡ 0) ⊎ (word_after g accounts c ≡ NONE)
  free_or_shut c lt none' =
      let w = word_after g accounts c in
      let le = word_after-le g accounts c in
      elim (cases_lt 0 w) [
        | inr zero' ↦ inl (omega arith)
        | inl some' ↦
            elim (cases_lt w NONE) [
              | inr top ↦ inr (omega arith)
              | inl less ↦ absurd (let is = row_from_word w some' less in let told' = decoded_row g accounts c lt in cc)
            ]
      ]

  -- a free word falls to a value of the next rank, where there is an offer
  falls : (c : ℕ) → c < g.cells → word_after g accounts c ≡ NONE → 0 < length (all_offers c more) → (row : Row) × (row_of new c ≡ Some row) × (row.rank ≡ suc rank)
  falls c lt free some' =
      let range = values_of_rank g a (suc rank) c more offers_due in
      let many = length-map (all_offers c more) (λ (o : Offer). o.value) in
      let w = least_from-range (word_after g accounts c) (1 + suc rank * 4096) (1 + suc rank * 4096 + 4096) (values (all_offers c more)) (omega arith) range (omega arith) in
      let m = least_from (word_after g accounts c) (values (all_offers c more)) in (
        record { rank = (m - 1) / 4096; input = (m - 1) % 4096 },
        decoded_row g (accounts ++ more) c lt ∙ (ap row_in (word_after-more g accounts more c) ∙ row_from_word m (omega arith) (omega arith)),
        omega arith,
      )

  -- without an offer a word stays
  no_offer : (c : ℕ) → c < g.cells → length (all_offers c more) ≡ 0 → row_of new c ≡ row_of rows c
  no_offer c lt none' =
      decoded_row g (accounts ++ more) c lt
      ∙ (ap row_in (word_after-more g accounts more c ∙ ap (λ l. least_from (word_after g accounts c) (values l)) (nil_from_length (all_offers c more) none'))
      ∙ sym (decoded_row g accounts c lt))

  shut : (c : ℕ) → c < g.cells → word_after g accounts c ≡ 0 → row_of new c ≡ None
  shut c lt e =
      let le = least_from-le (word_after g accounts c) (values (all_offers c more)) in
      decoded_row g (accounts ++ more) c lt ∙ (ap row_in (word_after-more g accounts more c) ∙ no_row_from_word (least_from (word_after g accounts c) (values (all_offers c more))) (inl (omega arith)))

  comes : (c : ℕ) (row : Row) → row_of rows c ≡ None → row_of new c ≡ Some row → row.rank ≡ suc rank
  comes c row none' is =
      let lt = cell_of_row g (accounts ++ more) c row is in
      elim (free_or_shut c lt none') [
        | inl zero' ↦ absurd (let e = shut c lt zero' in cc)
        | inr free ↦
            elim (cases_lt 0 (length (all_offers c more))) [
              | inr empty ↦ absurd (let e = no_offer c lt (omega arith) in cc)
              | inl some' ↦
                  let f = falls c lt free some' in
                  let same : Some f.0 ≡ Some row = sym f.1 ∙ is in
                  omega (arith, ap rank_in same)
            ]
      ]

  pub next_rows : IsNext rank rows new
  next_rows = record { stays = stays; comes = comes }

  highest : (c : ℕ) (row : Row) → row_of new c ≡ Some row → row.rank ≤ suc rank
  highest c row is = by_row (row_of rows c) refl
    where
      by_row : (o : Option Row) → row_of rows c ≡ o → row.rank ≤ suc rank
      by_row None e = let k = comes c row e is in omega arith
      by_row (Some old) e =
          let same : Some old ≡ Some row = sym (stays c old e) ∙ is in
          omega (arith, ap rank_in same, was.highest c old e)

  -- the cuts
  new_cuts : (pair : ℕ) → pair < pairs_of g → cut_count pair more ≡ count_by (λ s. rank_is rank (row_of rows s)) (successors_at g pair)
  new_cuts pair lt =
      let in' = successors_within g a pair lt in
      r.cuts pair lt
      ∙ counts_agree.alike (λ s. times s list) (λ s. one_if (rank_is rank (row_of rows s))) (successors_at g pair) (λ i d li. was.cells (get_or (successors_at g pair) i d) (in' i d li))

  cuts : (pair : ℕ) → pair < pairs_of g → cut_count pair (accounts ++ more) ≡ count_ranked_below g new (suc rank) pair
  cuts pair lt =
      omega (arith, cut_count-append pair accounts more, new_cuts pair lt, taken_after g rank rows new next_rows pair)

  -- a pair is used up in this round exactly where it is done now and wasn't before
  once : (pair : ℕ) → pair < pairs_of g → times pair last + one_if (is_done g rows rank pair) ≡ one_if (is_done g new (suc rank) pair)
  once pair lt =
      elim (cases_lt 0 (length (successors_at g pair))) [
        | inl some' ↦ by_tests some' (is_done g rows rank pair) (is_done g new (suc rank) pair) refl refl
        | inr none' ↦
            let e : length (successors_at g pair) ≡ 0 = omega arith in
            let b : one_if (is_done g rows rank pair) ≡ 0 = ap one_if (empty_not_done (length (successors_at g pair)) (count_ranked_below g rows rank pair) e) in
            let n : one_if (is_done g new (suc rank) pair) ≡ 0 = ap one_if (empty_not_done (length (successors_at g pair)) (count_ranked_below g new (suc rank) pair) e) in
            let few = count_by-le-length (λ answer. answer == 0) (all_answers pair more) in
            let is = cuts_to_are pair 0 more in
            let cut = new_cuts pair lt in
            let most = count_by-le-length (λ s. rank_is rank (row_of rows s)) (successors_at g pair) in
            omega arith
      ]
    where
      by_tests : 0 < length (successors_at g pair) → (b n : Bool) → is_done g rows rank pair ≡ b → is_done g new (suc rank) pair ≡ n → times pair last + one_if b ≡ one_if n
      by_tests some' b n eb en =
          let fan = length (successors_at g pair) in
          let short = few_successors g a pair lt in
          let before = was.cuts pair lt in
          let after = cuts pair lt in
          let most = count_by-le-length (λ s. below_in (suc rank) (row_of new s)) (successors_at g pair) in
          let first = was.lawful.pairs pair lt in
          let second = lawful.pairs pair lt in
          let law = new_answers accounts more pair fan first.0 second.0 first.1 second.1 (omega arith) (omega arith) 0 some' in
          let is = cuts_to_are pair 0 more in
          cases b n eb en law before after is most
        where
          cases : (b n : Bool) → is_done g rows rank pair ≡ b → is_done g new (suc rank) pair ≡ n
              → (cut_count pair accounts + 0 < length (successors_at g pair) → length (successors_at g pair) ≤ cut_count pair (accounts ++ more) + 0 → times_answered pair 0 more ≡ 1)
              × (length (successors_at g pair) ≤ cut_count pair accounts + 0 → times_answered pair 0 more ≡ 0)
              × (cut_count pair (accounts ++ more) + 0 < length (successors_at g pair) → times_answered pair 0 more ≡ 0)
              → cut_count pair accounts ≡ count_ranked_below g rows rank pair
              → cut_count pair (accounts ++ more) ≡ count_ranked_below g new (suc rank) pair
              → times_answered pair 0 more ≡ times pair last
              → count_ranked_below g new (suc rank) pair ≤ length (successors_at g pair)
              → times pair last + one_if b ≡ one_if n
          cases true true eb en law before after is most = let all = (done_parts g rows rank pair eb).1 in let e = law.1 (omega arith) in omega arith
          cases true false eb en law before after is most = absurd (let stay = done_stays g rank rows new next_rows pair eb in cc)
          cases false true eb en law before after is most =
              let open' = not_done g rows rank pair eb some' in
              let all = (done_parts g new (suc rank) pair en).1 in
              let e = law.0 (omega arith) (omega arith) in
              omega arith
          cases false false eb en law before after is most =
              let open' = not_done g new (suc rank) pair en some' in
              let e = law.2 (omega arith) in
              omega arith

  abbrev done_before : List ℕ
  done_before = filter (is_done g rows rank) (all_pairs g)

  abbrev done_now : List ℕ
  done_now = filter (is_done g new (suc rank)) (all_pairs g)

  -- the pairs that are done are those that were, and those that this round used up
  same_times : (n : ℕ) → times n done_now ≡ times n (done_before ++ last)
  same_times n =
      let both = sum_by-append (λ x. one_if (x == n)) done_before last in
      let now = counts_agree.filtered (is_done g new (suc rank)) n (all_pairs g) in
      let before = counts_agree.filtered (is_done g rows rank) n (all_pairs g) in
      elim (cases_lt n (pairs_of g)) [
        | inl lt ↦
            let one = counts_agree.in_range n 0 (pairs_of g) (omega arith) (omega arith) in
            let o = once n lt in
            let a = one_of (is_done g new (suc rank) n) (times n (all_pairs g)) one in
            let b = one_of (is_done g rows rank n) (times n (all_pairs g)) one in
            omega arith
        | inr ge ↦
            let none' = counts_agree.out_of_range n 0 (pairs_of g) (inr (omega arith)) in
            let a = none_of (is_done g new (suc rank) n) (times n (all_pairs g)) none' in
            let b = none_of (is_done g rows rank n) (times n (all_pairs g)) none' in
            let c = counts_agree.absent n last (λ i d li e. let l = below_pairs i d li in omega arith) in
            omega arith
      ]
    where
      one_of : (b : Bool) (m : ℕ) → m ≡ 1 → cond b m 0 ≡ one_if b
      one_of true m e = e
      one_of false m e = refl

      none_of : (b : Bool) (m : ℕ) → m ≡ 0 → cond b m 0 ≡ 0
      none_of true m e = e
      none_of false m e = refl

  abbrev due_before : ℕ → ℕ × ℕ
  due_before pair = due_offer g (rank_by g rows pair) pair

  abbrev due_now : ℕ → ℕ × ℕ
  due_now pair = due_offer g (rank_by g new pair) pair

  old_due : map due_now done_before ≡ map due_before done_before
  old_due =
      let passes = filter_passes (is_done g rows rank) (all_pairs g) in
      map_alike due_now due_before done_before (λ i d lt. ap (λ k. due_offer g k (get_or done_before i d)) (rank_by-stays g rank rows new next_rows (get_or done_before i d) (passes i d lt)))

  new_due : map due_now last ≡ map (due_offer g (suc rank)) last
  new_due =
      map_alike due_now (due_offer g (suc rank)) last (λ i d lt.
      let pair = get_or last i d in
      let below = below_pairs i d lt in
      let some' = counts_agree.counted pair last (Contains-get_or last i d lt) in
      let tests = fresh (is_done g rows rank pair) (is_done g new (suc rank) pair) (times pair last) some' (once pair below) in
      ap (λ k. due_offer g k pair) (rank_by-new g rank rows new next_rows pair tests.0 tests.1))

  offers : IsPermutation (due_offers g new (suc rank)) (map word_and_value (offers_in (accounts ++ more)))
  offers =
      let pairs = IsPermutation-map due_now done_now (done_before ++ last) (counts_agree.same done_now (done_before ++ last) same_times) in
      let parts : map due_now (done_before ++ last) ≡ map due_before done_before ++ map (due_offer g (suc rank)) last = map-append due_now done_before last ∙ ap₂ ◌++◌ old_due new_due in
      let made : map word_and_value (offers_in (accounts ++ more)) ≡ map word_and_value (offers_in accounts) ++ map (due_offer g (suc rank)) last =
      ap (map word_and_value) (offers_in-append accounts more) ∙ (map-append word_and_value (offers_in accounts) (offers_in more) ∙ ap (λ l. map word_and_value (offers_in accounts) ++ l) (offers_added g rank more r.each)) in
      IsPermutation-trans (map due_now done_now) (map due_before done_before ++ map (due_offer g (suc rank)) last) (map word_and_value (offers_in (accounts ++ more)))
      (subst (λ l. IsPermutation (map due_now done_now) l) parts pairs)
      (subst (λ l. IsPermutation (map due_before done_before ++ map (due_offer g (suc rank)) last) l) (sym made)
      (IsPermutation-append_left (map (due_offer g (suc rank)) last) (map due_before done_before) (map word_and_value (offers_in accounts)) was.offers))

  -- the cells of the next rank
  keeps_rank : (c : ℕ) (row : Row) → row_of rows c ≡ Some row → one_if (rank_is (suc rank) (row_of new c)) ≡ 0
  keeps_rank c row e =
      let low = was.highest c row e in
      ap (λ o. one_if (rank_is (suc rank) o)) (stays c row e) ∙ ap one_if (ne_eqb row.rank (suc rank) (λ f. absurd (omega arith)))

  no_rank : (c : ℕ) → row_of new c ≡ None → one_if (rank_is (suc rank) (row_of new c)) ≡ 0
  no_rank c e = ap (λ o. one_if (rank_is (suc rank) o)) e

  claims : (c : ℕ) → c < g.cells → first_count (all_offers c more) ≡ one_if (rank_is (suc rank) (row_of new c))
  claims c lt = by_mark (mark_of g c) refl
    where
      old_values : All (λ v. (1 ≤ v) × (v < NONE)) (values (all_offers c accounts))
      old_values = values_valued g c accounts was.valued

      plain : mark_of g c ≡ Plain → first_count (all_offers c more) ≡ one_if (rank_is (suc rank) (row_of new c))
      plain m =
          let start : word_at (mark_of g c) ≡ NONE = ap word_at m in
          let firsts = new_firsts accounts more c (word_at (mark_of g c)) (was.lawful.cells c lt).0 (lawful.cells c lt).0 (was.lawful.cells c lt).1 (lawful.cells c lt).1 in
          let many = length-map (all_offers c accounts) (λ (o : Offer). o.value) in
          elim (cases_lt 0 (length (all_offers c accounts))) [
            | inl had ↦
                let w = least_from-range (word_at (mark_of g c)) 1 NONE (values (all_offers c accounts)) (omega arith) old_values (omega arith) in
                let is = decoded_row g accounts c lt ∙ row_from_word (word_after g accounts c) (let w0 = w.0 in omega arith) w.1 in
                firsts.1 had ∙ sym (keeps_rank c _ is)
            | inr none' ↦
                let free : word_after g accounts c ≡ NONE = ap (λ l. least_from (word_at (mark_of g c)) (values l)) (nil_from_length (all_offers c accounts) (omega arith)) ∙ start in
                elim (cases_lt 0 (length (all_offers c more))) [
                  | inl some' ↦
                      let f = falls c lt free some' in
                      firsts.0 start (omega arith) some' ∙ sym (ap (λ o. one_if (rank_is (suc rank) o)) f.1 ∙ ap one_if (eq-eqb f.0.rank (suc rank) f.2))
                  | inr empty ↦
                      let is = no_offer c lt (omega arith) ∙ (decoded_row g accounts c lt ∙ (ap row_in free ∙ no_row_from_word NONE (inr refl))) in
                      let z : first_count (all_offers c more) ≡ 0 = ap first_count (nil_from_length (all_offers c more) (omega arith)) in
                      z ∙ sym (no_rank c is)
                ]
          ]

      by_mark : (m : Mark) → mark_of g c ≡ m → first_count (all_offers c more) ≡ one_if (rank_is (suc rank) (row_of new c))
      by_mark Plain m = plain m
      by_mark Goal m =
          let start : word_at (mark_of g c) ≡ 1 = ap word_at m in
          let firsts = new_firsts accounts more c (word_at (mark_of g c)) (was.lawful.cells c lt).0 (lawful.cells c lt).0 (was.lawful.cells c lt).1 (lawful.cells c lt).1 in
          let w : word_after g accounts c ≡ 1 = ap (λ n. least_from n (values (all_offers c accounts))) start ∙ least_from-keeps 1 (values (all_offers c accounts)) (λ i d li. (old_values i d li).0) in
          let is = decoded_row g accounts c lt ∙ (ap row_in w ∙ row_from_word 1 (omega arith) (omega arith)) in
          firsts.2 (λ e. absurd (omega arith)) ∙ sym (keeps_rank c _ is)
      by_mark Obstacle m =
          let start : word_at (mark_of g c) ≡ 0 = ap word_at m in
          let firsts = new_firsts accounts more c (word_at (mark_of g c)) (was.lawful.cells c lt).0 (lawful.cells c lt).0 (was.lawful.cells c lt).1 (lawful.cells c lt).1 in
          let le = least_from-le (word_at (mark_of g c)) (values (all_offers c accounts)) in
          firsts.2 (λ e. absurd (omega arith)) ∙ sym (no_rank c (shut c lt (omega arith)))

  claimed_within : All (λ c. c < g.cells) (claimed_words (offers_in more))
  claimed_within =
      All-map (λ c. c < g.cells) (λ (o : Offer). o.word) (filter (λ (o : Offer). o.first) (offers_in more))
      (All-filter (λ (o : Offer). o.first) (λ (o : Offer). o.word < g.cells) (offers_in more)
      (All-weaker (IsDueOffer g) (λ (o : Offer). o.word < g.cells) (λ o b. b.word) (offers_in more) valued_more))

  -- the next list has the cells that were claimed
  pub round_leads_on : (next : List ℕ) → ((c : ℕ) → times c next ≡ times c (claimed_words (offers_in more))) → IsReached g (suc rank) next (accounts ++ more)
  round_leads_on next same = record {
    lawful = lawful;
    cuts = cuts;
    no_other_cut = subst (λ l. All (λ (c : Cut). c.counter < pairs_of g) l) (sym (cuts_in-append accounts more)) (All-append (λ (c : Cut). c.counter < pairs_of g) (cuts_in accounts) (cuts_in more) was.no_other_cut (cuts_stay_below g rank more r.each));
    offers = offers;
    valued = subst (λ l. All (IsDueOffer g) l) (sym (offers_in-append accounts more)) (All-append (IsDueOffer g) (offers_in accounts) (offers_in more) was.valued valued_more);
    logs =
        ap logged_cells (all_logs-append accounts more)
        ∙ (map-append (λ (l : Log). l.cell) (all_logs accounts) (all_logs more)
        ∙ (ap₂ ◌++◌ was.logs (logs_added g rank more r.each)
        ∙ sym (ap claimed_words (offers_in-append accounts more) ∙ claimed-append (offers_in accounts) (offers_in more))));
    highest = highest;
    cells = λ c lt. same c ∙ (firsts_are c more ∙ claims c lt);
    within = λ i d lt.
        let c = get_or next i d in
        let some' = counts_agree.counted c next (Contains-get_or next i d lt) in
        All-contains (λ c. c < g.cells) (claimed_words (offers_in more)) c claimed_within (counts_agree.found c (claimed_words (offers_in more)) (omega arith));
  }
