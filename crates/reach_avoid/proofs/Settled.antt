-- After the last round: the rows are right, the accounts are reckoned, and the tally counts them.
use Rattle.std.proofs.Common.{inl, inr, ◌≡◌, ◌≢◌, ℕ, zero, suc, ◌+◌, ◌*◌, ◌/◌, ◌%◌, ◌^◌, ◌<◌, ◌≤◌, ◌==◌, ◌&&◌, nat_lt, Bool, true, false, cond, List, [], ◌∷◌, map, filter, length, get_or, All, Contains, IsPermutation, Option, Some, None, is_some, count_by, sum_by, arith, refl, sym, ◌∙◌, ap, subst, eq-eqb, lt-ltb}
use Rattle.std.specs.List.{range_with_len}
use Rattle.std.proofs.lemmas.Bool.{cases_lt, cases_eq, eqb-true, ltb-true, and_parts, and_from}
use Rattle.std.proofs.lemmas.List.{length-map, get_or-map, get_or_default}
use Rattle.std.proofs.lemmas.List.Elements.{All-head, All-map, All-filter, All-contains, All-contains_itself, Contains-get_or, filter_passes, filter_agree}
use Rattle.std.proofs.lemmas.List.FromFn.{length-range_with_len, length-map-range_with_len}
use Rattle.std.proofs.lemmas.List.Sums.{count_by-le-length, length-filter}
use Rattle.std.proofs.lemmas.List.Sorted.{IsPermutation-sym, Contains-permutation, length_permutation}
use Rattle.std.proofs.lemmas.Nat.{div-mul-add, mod-mul-add, mul-add-lt, div-add-mod'}
use Rattle.cell_counters.specs.declared.account.TheConstants.{NONE}
use Rattle.cell_counters.specs.declared.account.Cut.{Cut}
use Rattle.cell_counters.specs.declared.account.Offer.{Offer}
use Rattle.cell_counters.specs.declared.account.Account.{Account}
use Rattle.cell_counters.specs.Accounts.{all_offers, values}
use Rattle.game_core.specs.Counts.{times, one_if}
use Rattle.game_core.specs.declared.game.Mark.TheVariants.{Goal, Obstacle, Plain}
use Rattle.game_core.specs.declared.game.Row.{Row}
use Rattle.game_core.specs.Game.{Game, IsGraph, mark_of, pair_of, pairs_of, successors_at, successors_of}
use Rattle.game_core.specs.Solution.{row_of, rank_in, rank_at, greatest, greatest_rank, HasRow}
use Rattle.game_core.specs.Right.{IsBestInput, IsUnwinnable, IsRightRanked, AreRight}
use Rattle.game_core.specs.Tally.{all_pairs, ranked_in, is_resolved, rank_by, rounds_to}
use Rattle.game_core.proofs.Times.{counts_agree}
use Rattle.game_core.proofs.Right.{right_from}
use Rattle.board_rounds.specs.Crew.{cuts_in, offers_in}
use Rattle.board_rounds.proofs.Accounts.{cuts_are, offers_are}
use Rattle.reach_avoid.specs.ReachBoards.{word_at}
use Rattle.reach_avoid.specs.ReachReckoned.{word_and_value, due_offer, IsReckonedBy}
use Rattle.reach_avoid.specs.inside.ReachRounds.{row_in, least_from, word_after, decoded_rows, below_in, rank_is, count_ranked_below, is_done, IsReached, IsFull}
use Rattle.reach_avoid.proofs.Words.{least_from-le, least_from-lower, least_from-among, least_from-keeps, row_from_word, no_row_from_word, decoded_row, cell_of_row, word_of_row}
use Rattle.reach_avoid.proofs.Ranks.{greatest_of, greatest_rank-le}
use Rattle.reach_avoid.proofs.Games.{input_of_pair, values_valued}
use Rattle.board_rounds.proofs.Sums.{All-range}
use Rattle.base.proofs.Lists.{some_element}

-- elements of maps and filters
contains_map : {X Y : Type 0} (f : X → Y) (xs : List X) (x : X) → Contains xs x → Contains (map f xs) (f x)
contains_map f xs x has = let len = length-map xs f in (has.0, (let lt = has.1 in omega arith), get_or-map f xs has.0 x (f x) has.1 ∙ ap f has.2)

contains_filter : {X : Type 0} (p : X → Bool) (xs : List X) (x : X) → Contains xs x → p x ≡ true → Contains (filter p xs) x
contains_filter p [] x has e = absurd (let lt = has.1 in omega arith)
contains_filter {X} p (y ∷ ys) x has e = by_slot has (λ more. contains_filter p ys x more e)
  where
    after : (b : Bool) → Contains (filter p ys) x → Contains (cond b (y ∷ filter p ys) (filter p ys)) x
    after true (k, lt, is) = (suc k, omega arith, is)
    after false h = h

    by_slot : Contains (y ∷ ys) x → (Contains ys x → Contains (filter p ys) x) → Contains (filter p (y ∷ ys)) x
    by_slot (zero, lt, is) later =
        let passes : true ≡ p y = sym (ap p is ∙ e) in
        subst (λ b. Contains (cond b (y ∷ filter p ys) (filter p ys)) x) passes (0, omega arith, is)
    by_slot (suc k, lt, is) later = after (p y) (later (k, omega arith, is))

filled : {X : Type 0} (xs : List X) → 0 < length xs → xs ≢ []
filled xs lt e = let n = ap length e in absurd (omega arith)

some_row : (o : Option Row) → is_some o ≡ true → (row : Row) × (o ≡ Some row)
some_row None e = absurd (cc)
some_row (Some row) e = (row, refl)

no_row : (o : Option Row) → is_some o ≡ false → o ≡ None
no_row None e = refl
no_row (Some row) e = absurd (cc)

-- the greatest of ranks below k lies below k, where there are any
greatest_rank-lt : (rows : List (Option Row)) (k : ℕ) (cells : List ℕ) → 0 < length cells → All (λ s. rank_at rows s < k) cells → greatest_rank rows cells < k
greatest_rank-lt rows zero [] some' h = absurd (omega arith)
greatest_rank-lt rows zero (s ∷ cells) some' h = absurd (let first = All-head (λ s. rank_at rows s < 0) s cells h in omega arith)
greatest_rank-lt rows (suc k) cells some' h =
    let le = greatest_rank-le rows k cells (λ i d lt. let r = h i d lt in omega arith) in
    omega arith

module _ (g : Game) (rows : List (Option Row)) where
  resolved_parts : (pair : ℕ) → is_resolved g rows pair ≡ true → (0 < length (successors_at g pair)) × All (HasRow rows) (successors_at g pair)
  resolved_parts pair e =
      let both = and_parts (nat_lt 0 (length (successors_at g pair))) (ranked_in g rows pair == length (successors_at g pair)) e in
      let all = counts_agree.each_passes (λ s. is_some (row_of rows s)) (successors_at g pair) (eqb-true (ranked_in g rows pair) (length (successors_at g pair)) both.1) in
      (ltb-true 0 (length (successors_at g pair)) both.0, λ i d lt. some_row (row_of rows (get_or (successors_at g pair) i d)) (all i d lt))

  resolved_from : (pair : ℕ) → 0 < length (successors_at g pair) → ranked_in g rows pair ≡ length (successors_at g pair) → is_resolved g rows pair ≡ true
  resolved_from pair lt e =
      and_from (nat_lt 0 (length (successors_at g pair))) (ranked_in g rows pair == length (successors_at g pair)) (lt-ltb 0 (length (successors_at g pair)) lt) (eq-eqb (ranked_in g rows pair) (length (successors_at g pair)) e)

  resolved_all : (pair : ℕ) → 0 < length (successors_at g pair) → All (HasRow rows) (successors_at g pair) → is_resolved g rows pair ≡ true
  resolved_all pair lt all = resolved_from pair lt (counts_agree.all_pass (λ s. is_some (row_of rows s)) (successors_at g pair) (λ i d li. let r = all i d li in ap is_some r.1))

module _ (g : Game) (a : IsGraph g) (rank : ℕ) (accounts : List Account) (was : IsReached g rank [] accounts) where
  abbrev rows : List (Option Row)
  rows = decoded_rows g accounts

  -- no row has this rank
  all_below : (c : ℕ) (row : Row) → row_of rows c ≡ Some row → row.rank < rank
  all_below c row e =
      let le = was.highest c row e in
      let none' = was.cells c (cell_of_row g accounts c row e) in
      elim (cases_eq row.rank rank) [
        | inr ne ↦ omega arith
        | inl same ↦
            let one : one_if (rank_is rank (row_of rows c)) ≡ 1 = ap (λ o. one_if (rank_is rank o)) e ∙ ap one_if (eq-eqb row.rank rank same) in
            absurd (omega arith)
      ]

  below_is_some : (s : ℕ) → below_in rank (row_of rows s) ≡ is_some (row_of rows s)
  below_is_some s = by_row (row_of rows s) refl
    where
      by_row : (o : Option Row) → row_of rows s ≡ o → below_in rank o ≡ is_some o
      by_row None e = refl
      by_row (Some row) e = lt-ltb row.rank rank (all_below s row e)

  taken_is_ranked : (pair : ℕ) → count_ranked_below g rows rank pair ≡ ranked_in g rows pair
  taken_is_ranked pair = counts_agree.alike (λ s. one_if (below_in rank (row_of rows s))) (λ s. one_if (is_some (row_of rows s))) (successors_at g pair) (λ i d lt. ap one_if (below_is_some (get_or (successors_at g pair) i d)))

  done_is_resolved : (pair : ℕ) → is_done g rows rank pair ≡ is_resolved g rows pair
  done_is_resolved pair = ap (λ n. nat_lt 0 (length (successors_at g pair)) && (n == length (successors_at g pair))) (taken_is_ranked pair)

  abbrev resolved : List ℕ
  resolved = filter (is_resolved g rows) (all_pairs g)

  abbrev offer_row : ℕ → ℕ × ℕ
  offer_row pair = due_offer g (rank_by g rows pair) pair

  offers_due : IsPermutation (map offer_row resolved) (map word_and_value (offers_in accounts))
  offers_due = subst (λ l. IsPermutation (map offer_row l) (map word_and_value (offers_in accounts))) (filter_agree (is_done g rows rank) (is_resolved g rows) done_is_resolved (all_pairs g)) was.offers

  -- the accounts have what the rows reckon
  pub reckoned : IsReckonedBy g rows accounts
  reckoned = record { cuts = λ pair lt. was.cuts pair lt ∙ taken_is_ranked pair; no_other_cut = was.no_other_cut; offers = offers_due }

  -- each offer is that of a resolved pair
  offered_by : (o : Offer) → Contains (offers_in accounts) o → (pair : ℕ) × (pair < pairs_of g) × (is_resolved g rows pair ≡ true) × (word_and_value o ≡ offer_row pair)
  offered_by o has =
      let there = Contains-permutation (map word_and_value (offers_in accounts)) (map offer_row resolved) (word_and_value o) (IsPermutation-sym (map offer_row resolved) (map word_and_value (offers_in accounts)) offers_due) (contains_map word_and_value (offers_in accounts) o has) in
      let i = there.0 in
      let lt : i < length resolved = (let l = there.1 in let len = length-map resolved offer_row in omega arith) in
      let pair = get_or resolved i 0 in
      let passes = filter_passes (is_resolved g rows) (all_pairs g) in
      let below = All-filter (is_resolved g rows) (λ pair. pair < pairs_of g) (all_pairs g) (All-range (pairs_of g)) in
      (pair, below i 0 lt, passes i 0 lt, sym there.2 ∙ get_or-map offer_row resolved i 0 (word_and_value o) lt)

  -- the minimum of a cell is at most what its resolved pairs offer
  word_below : (pair : ℕ) → pair < pairs_of g → is_resolved g rows pair ≡ true → (word_after g accounts (pair / g.inputs) ≤ 1 + rank_by g rows pair * 4096 + pair % g.inputs) × (word_after g accounts (pair / g.inputs) < NONE)
  word_below pair lt e =
      let c = pair / g.inputs in
      let once : times pair resolved ≡ 1 = counts_agree.filtered (is_resolved g rows) pair (all_pairs g) ∙ (ap (λ b. cond b (times pair (all_pairs g)) 0) e ∙ counts_agree.in_range pair 0 (pairs_of g) (omega arith) (omega arith)) in
      let there = Contains-permutation (map offer_row resolved) (map word_and_value (offers_in accounts)) (offer_row pair) offers_due (contains_map offer_row resolved pair (counts_agree.found pair resolved (omega arith))) in
      let i = there.0 in
      let nothing : Offer = record { word = 0; value = 0; first = false } in
      let li : i < length (offers_in accounts) = (let l = there.1 in let len = length-map (offers_in accounts) word_and_value in omega arith) in
      let o = get_or (offers_in accounts) i nothing in
      let is : word_and_value o ≡ offer_row pair = sym (get_or-map word_and_value (offers_in accounts) i nothing (offer_row pair) li) ∙ there.2 in
      let word : o.word ≡ c = ap (λ p. p.0) is in
      let value : o.value ≡ 1 + rank_by g rows pair * 4096 + pair % g.inputs = ap (λ p. p.1) is in
      let holds_before : Contains (all_offers c accounts) o = subst (λ l. Contains l o) (sym (offers_are c accounts)) (contains_filter (λ (o : Offer). o.word == c) (offers_in accounts) o (Contains-get_or (offers_in accounts) i nothing li) (eq-eqb o.word c word)) in
      let le = All-contains (λ v. word_after g accounts c ≤ v) (values (all_offers c accounts)) o.value (least_from-lower (word_at (mark_of g c)) (values (all_offers c accounts))) (contains_map (λ (o : Offer). o.value) (all_offers c accounts) o holds_before) in
      let less = (was.valued i nothing li).less in
      (omega arith, omega arith)

  -- an enabled input of a cell, as a pair
  module _ (c v : ℕ) (lt : c < g.cells) (in' : v < g.inputs) where
    pair_below : pair_of g c v < pairs_of g
    pair_below = let slot = mul-add-lt c g.inputs v g.cells lt in' in omega arith

    cell_is : pair_of g c v / g.inputs ≡ c
    cell_is = div-mul-add c g.inputs v in'

    input_is : pair_of g c v % g.inputs ≡ v
    input_is = mod-mul-add c g.inputs v in'

    word_below_input : is_resolved g rows (pair_of g c v) ≡ true → (word_after g accounts c ≤ 1 + rank_by g rows (pair_of g c v) * 4096 + v) × (word_after g accounts c < NONE)
    word_below_input e =
        let w = word_below (pair_of g c v) pair_below e in
        subst (λ n. (word_after g accounts c ≤ 1 + rank_by g rows (pair_of g c v) * 4096 + n) × (word_after g accounts c < NONE)) input_is
        (subst (λ d. (word_after g accounts d ≤ 1 + rank_by g rows (pair_of g c v) * 4096 + pair_of g c v % g.inputs) × (word_after g accounts d < NONE)) cell_is w)

  -- a plain cell with a row has the offer of a resolved pair of its own
  pub record IsWordBy (c w : ℕ) : Type 0 where
    pub input : ℕ
    pub enabled : input < g.inputs
    pub resolved : is_resolved g rows (pair_of g c input) ≡ true
    pub word : w ≡ 1 + rank_by g rows (pair_of g c input) * 4096 + input

  word_by : (c : ℕ) → c < g.cells → mark_of g c ≡ Plain → word_after g accounts c < NONE → IsWordBy c (word_after g accounts c)
  word_by c lt m less =
      let start : word_at (mark_of g c) ≡ NONE = ap word_at m in
      elim (least_from-among (word_at (mark_of g c)) (values (all_offers c accounts))) [
        | inl e ↦ absurd (omega arith)
        | inr has ↦
            let nothing : Offer = record { word = 0; value = 0; first = false } in
            let i = has.0 in
            let li : i < length (all_offers c accounts) = (let l = has.1 in let len = length-map (all_offers c accounts) (λ (o : Offer). o.value) in omega arith) in
            let o = get_or (all_offers c accounts) i nothing in
            let value : o.value ≡ word_after g accounts c = sym (get_or-map (λ (o : Offer). o.value) (all_offers c accounts) i nothing (word_after g accounts c) li) ∙ has.2 in
            let both = subst (λ l. All (λ (o : Offer). (o.word == c) ≡ true) l × All (Contains (offers_in accounts)) l) (sym (offers_are c accounts))
            (filter_passes (λ (o : Offer). o.word == c) (offers_in accounts), All-filter (λ (o : Offer). o.word == c) (Contains (offers_in accounts)) (offers_in accounts) (All-contains_itself (offers_in accounts))) in
            let word : o.word ≡ c = eqb-true o.word c (both.0 i nothing li) in
            let by = offered_by o (both.1 i nothing li) in
            let pair = by.0 in
            let cell : o.word ≡ pair / g.inputs = ap (λ p. p.0) by.3 in
            let offers_due' : o.value ≡ 1 + rank_by g rows pair * 4096 + pair % g.inputs = ap (λ p. p.1) by.3 in
            let parts = div-add-mod' pair g.inputs in
            let same : pair ≡ pair_of g c (pair % g.inputs) = sym (ap (λ d. d * g.inputs + pair % g.inputs) (sym word ∙ cell) ∙ parts) in
            record {
              input = pair % g.inputs;
              enabled = input_of_pair g a pair;
              resolved = subst (λ p. is_resolved g rows p ≡ true) same by.2;
              word = sym value ∙ (offers_due' ∙ ap (λ p. 1 + rank_by g rows p * 4096 + pair % g.inputs) same);
            }
      ]

  right_goal : (c : ℕ) → c < g.cells → mark_of g c ≡ Goal → row_of rows c ≡ Some (record { rank = 0; input = 0 })
  right_goal c lt m =
      let start : word_at (mark_of g c) ≡ 1 = ap word_at m in
      let old = values_valued g c accounts was.valued in
      let w : word_after g accounts c ≡ 1 = ap (λ n. least_from n (values (all_offers c accounts))) start ∙ least_from-keeps 1 (values (all_offers c accounts)) (λ i d li. (old i d li).0) in
      decoded_row g accounts c lt ∙ (ap row_in w ∙ row_from_word 1 (omega arith) (omega arith))

  right_obstacle : (c : ℕ) → c < g.cells → mark_of g c ≡ Obstacle → row_of rows c ≡ None
  right_obstacle c lt m =
      let start : word_at (mark_of g c) ≡ 0 = ap word_at m in
      let le = least_from-le (word_at (mark_of g c)) (values (all_offers c accounts)) in
      decoded_row g accounts c lt ∙ no_row_from_word (word_after g accounts c) (inl (omega arith))

  -- the word of a plain cell isn't 0
  word_above : (c : ℕ) → mark_of g c ≡ Plain → 0 < word_after g accounts c
  word_above c m =
      let start : word_at (mark_of g c) ≡ NONE = ap word_at m in
      elim (least_from-among (word_at (mark_of g c)) (values (all_offers c accounts))) [
        | inl e ↦ omega arith
        | inr has ↦
            let v = All-contains (λ v. (1 ≤ v) × (v < NONE)) (values (all_offers c accounts)) (word_after g accounts c) (values_valued g c accounts was.valued) has in
            omega arith
      ]

  lost : (c : ℕ) → c < g.cells → mark_of g c ≡ Plain → row_of rows c ≡ None → IsUnwinnable g rows c
  lost c lt m none' v enabled =
      let pair = pair_of g c v in
      elim (cases_lt (ranked_in g rows pair) (length (successors_at g pair))) [
        | inl less ↦
            let f = counts_agree.one_fails (λ s. is_some (row_of rows s)) (successors_at g pair) less in
            (f.0, f.1, no_row (row_of rows f.0) f.2)
        | inr ge ↦
            let most = count_by-le-length (λ s. is_some (row_of rows s)) (successors_at g pair) in
            let e = resolved_from g rows pair (some_element (successors_at g pair) enabled.1) (omega arith) in
            let low = word_below_input c v lt enabled.0 e in
            absurd (let is = row_from_word (word_after g accounts c) (word_above c m) low.1 in let told' = decoded_row g accounts c lt in cc)
      ]

  best : (c k u : ℕ) → c < g.cells → u < g.inputs → is_resolved g rows (pair_of g c u) ≡ true → greatest_rank rows (successors_of g c u) ≡ k → word_after g accounts c ≡ 1 + suc k * 4096 + u → IsBestInput g rows c u k
  best c k u lt in' e full w =
      let parts = resolved_parts g rows (pair_of g c u) e in
      record {
        leads = record { enabled = (in', filled (successors_of g c u) parts.0); ranked = parts.1; greatest = full };
        none_further = λ v enabled below.
            let some' = some_element (successors_of g c v) enabled.1 in
            let all = resolved_all g rows (pair_of g c v) some' (λ i d li. let r = below i d li in (r.row, r.is)) in
            let low = greatest_rank-lt rows k (successors_of g c v) some' (λ i d li. let r = below i d li in let b = r.below in let e' : rank_at rows (get_or (successors_of g c v) i d) ≡ r.row.rank = ap rank_in r.is in omega arith) in
            let le = (word_below_input c v lt enabled.0 all).0 in
            absurd (omega arith);
        none_lesser = λ v less leads.
            let some' = some_element (successors_of g c v) leads.enabled.1 in
            let all = resolved_all g rows (pair_of g c v) some' leads.ranked in
            let le = (word_below_input c v lt leads.enabled.0 all).0 in
            absurd (omega arith);
      }

  ranked : (c : ℕ) (row : Row) → c < g.cells → mark_of g c ≡ Plain → row_of rows c ≡ Some row → IsRightRanked g rows c row.rank row.input
  ranked c row lt m e =
      let w = word_of_row g accounts c row e in
      let by = word_by c lt m w.less in
      let k = greatest_rank rows (successors_of g c by.input) in
      let rank' : suc k ≡ row.rank = omega arith in
      let input' : by.input ≡ row.input = omega arith in
      subst (λ n. IsRightRanked g rows c n row.input) rank' (subst (λ u. IsRightRanked g rows c (suc k) u) input' (best c k by.input lt by.enabled by.resolved refl by.word))

  pub right : AreRight g rows
  right = right_from g rows (length-map-range_with_len (λ c. row_in (word_after g accounts c)) 0 g.cells) right_goal right_obstacle lost ranked

  -- the tally
  pub cuts_count : length (cuts_in accounts) ≡ sum_by (ranked_in g rows) (all_pairs g)
  cuts_count =
      let counters = map (λ (c : Cut). c.counter) (cuts_in accounts) in
      let in' = All-range (pairs_of g) in
      sym (length-map (cuts_in accounts) (λ (c : Cut). c.counter))
      ∙ (sym (counts_agree.of_all_below (pairs_of g) counters (All-map (λ n. n < pairs_of g) (λ (c : Cut). c.counter) (cuts_in accounts) was.no_other_cut))
      ∙ counts_agree.alike (λ pair. times pair counters) (ranked_in g rows) (all_pairs g) (λ i d lt.
      let pair = get_or (all_pairs g) i d in
      sym (cuts_are pair accounts) ∙ (was.cuts pair (in' i d lt) ∙ taken_is_ranked pair)))

  pub offers_count : length (offers_in accounts) ≡ count_by (is_resolved g rows) (all_pairs g)
  offers_count =
      sym (length-map (offers_in accounts) word_and_value)
      ∙ (length_permutation (map offer_row resolved) (map word_and_value (offers_in accounts)) offers_due
      ∙ (length-map resolved offer_row ∙ length-filter (is_resolved g rows) (all_pairs g)))

  pub few_cuts : length (cuts_in accounts) ≤ 2 ^ 25
  few_cuts =
      let le = counts_agree.lesser (ranked_in g rows) (λ pair. length (successors_at g pair)) (all_pairs g) (λ i d lt. count_by-le-length (λ s. is_some (row_of rows s)) (successors_at g (get_or (all_pairs g) i d))) in
      let all = counts_agree.positions_of_lists length g.successors in
      let many = a.game.one_list_each in
      let same : sum_by (λ pair. length (successors_at g pair)) (all_pairs g) ≡ sum_by length g.successors = ap (λ n. sum_by (λ pair. length (successors_at g pair)) (range_with_len 0 n)) (sym many) ∙ all in
      let is = cuts_count in
      omega arith

  pub few_offers : length (offers_in accounts) ≤ 2 ^ 22
  few_offers =
      let le = count_by-le-length (is_resolved g rows) (all_pairs g) in
      let len = length-range_with_len 0 (pairs_of g) in
      let is = offers_count in
      omega arith

  pub rounds_count : IsFull rows rank → rank ≡ greatest (map rounds_to rows)
  rounds_count full =
      let len = length-map-range_with_len (λ c. row_in (word_after g accounts c)) 0 g.cells in
      let up : greatest (map rounds_to rows) ≤ rank = greatest_of rank (map rounds_to rows) (All-map (λ n. n ≤ rank) rounds_to rows (λ i d lt. subst (λ o. rounds_to o ≤ rank) (get_or_default rows i None d lt) (most (row_of rows i) (all_below i)))) in
      elim full [
        | inl zero' ↦ omega arith
        | inr (c, row, is, k) ↦
            let lt = cell_of_row g accounts c row is in
            let at : get_or (map rounds_to rows) c 0 ≡ suc row.rank = get_or-map rounds_to rows c None 0 (omega arith) ∙ ap rounds_to is in
            let len' = length-map rows rounds_to in
            let le = at_most (map rounds_to rows) c (omega arith) in
            omega arith
      ]
    where
      most : (o : Option Row) → ((row : Row) → o ≡ Some row → row.rank < rank) → rounds_to o ≤ rank
      most None h = omega arith
      most (Some row) h = let lt = h row refl in omega arith

      at_most : (ns : List ℕ) (i : ℕ) → i < length ns → get_or ns i 0 ≤ greatest ns
      at_most [] i lt = omega arith
      at_most (n ∷ ns) zero lt = omega arith
      at_most (n ∷ ns) (suc i) lt = let rest = at_most ns i (omega arith) in omega arith
