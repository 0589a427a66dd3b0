-- After the last round: the rows are settled, the accounts are reckoned, and the tally counts them.
use Rattle.std.proofs.Common.{inl, inr, ◌≡◌, ◌≢◌, ℕ, zero, suc, ◌+◌, ◌*◌, ◌/◌, ◌^◌, ◌<◌, ◌≤◌, ◌==◌, ◌&&◌, not, nat_lt, true, false, List, [], length, get_or, Option, Some, None, is_some, count_by, sum_by, arith, refl, sym, ◌∙◌, ap, subst, eq-eqb}
use Rattle.std.specs.List.{range_with_len}
use Rattle.std.proofs.lemmas.Bool.{cases_lt, cases_Bool, lt-ltb, ltb-true, eqb-true, and_parts, and_from}
use Rattle.std.proofs.lemmas.List.{length-map}
use Rattle.std.proofs.lemmas.List.Elements.{All-map}
use Rattle.std.proofs.lemmas.List.FromFn.{length-range_with_len}
use Rattle.std.proofs.lemmas.List.Sums.{count_by-le-length}
use Rattle.board_rounds.specs.Crew.{cuts_in, counters_of}
use Rattle.game_core.specs.Counts.{one_if, times}
use Rattle.board_rounds.proofs.Accounts.{cuts_are}
use Rattle.cell_counters.specs.declared.account.Cut.{Cut}
use Rattle.cell_counters.specs.declared.account.Account.{Account}
use Rattle.cell_counters.specs.Accounts.{cut_count}
use Rattle.game_core.specs.declared.game.Mark.{Mark}
use Rattle.game_core.specs.declared.game.Mark.TheVariants.{Goal, Obstacle, Plain}
use Rattle.game_core.specs.declared.game.Row.{Row}
use Rattle.game_core.specs.Fallen.{is_obstacle, has_fallen, IsStable, AreStable, LeadsToRows}
use Rattle.game_core.specs.Game.{Game, IsGraph, mark_of, pair_of, pairs_of, successors_at, successors_of}
use Rattle.game_core.specs.Solution.{row_of, HasRow}
use Rattle.game_core.specs.Tally.{all_pairs, unkept_in, is_lost, FellBefore}
use Rattle.game_core.proofs.Times.{counts_agree}
use Rattle.safety_game.specs.KeepBoards.{pairs_at}
use Rattle.safety_game.specs.KeepReckoned.{lost_at, IsReckonedBy}
use Rattle.safety_game.specs.inside.KeepRounds.{fell_before, gone_in, is_cell_cut, cell_cuts_at, AreFalling, IsFull, is_whole, IsRowDecoded, AreRowsDecoded}
use Rattle.base.proofs.Counts.{one_if_le, one_if_same, count_none}
use Rattle.board_rounds.proofs.Graphs.{successors_within}
use Rattle.board_rounds.proofs.Sums.{All-range}
use Rattle.safety_game.proofs.Counting.{range_split, range_shift, range_rows}
use Rattle.safety_game.proofs.Pairs.{cell_of, pair_below, pairs_below, All-pairs_at, All-at_input}
use Rattle.safety_game.proofs.Falls.{is_enabled, touched_enabled, fell_later, falls_by_cell_cuts, cell_cuts_by_fall, obstacle_falls}
use Rattle.base.proofs.Lists.{some_element}

clear_if : (m : Mark) → m ≢ Obstacle → is_obstacle m ≡ false
clear_if Goal ne = refl
clear_if Obstacle ne = absurd (ne refl)
clear_if Plain ne = refl

filled : (xs : List ℕ) → 0 < length xs → xs ≢ []
filled xs lt e = let n = ap length e in absurd (omega arith)

no_row : (o : Option Row) → not (is_some o) ≡ true → o ≡ None
no_row None e = refl
no_row (Some row) e = absurd (cc)

a_row : (o : Option Row) → not (is_some o) ≡ false → (row : Row) × (o ≡ Some row)
a_row None e = absurd (cc)
a_row (Some row) e = (row, refl)

-- who fell before some round fell in one before it
fell_in : (g : Game) (d c : ℕ) → fell_before g d c ≡ true → (k : ℕ) × (k < d) × (has_fallen g k c ≡ true)
fell_in g zero c e = absurd (let f : false ≡ true = e in cc)
fell_in g (suc d) c e = (d, omega arith, e)

module _ (g : Game) (a : IsGraph g) (d : ℕ) (accounts : List Account) (was : AreFalling g d [] accounts) (rows : List (Option Row)) (told : AreRowsDecoded g accounts rows) where
  -- no cell falls any more
  over : (c : ℕ) → c < g.cells → fell_before g d c ≡ has_fallen g d c
  over c lt = one_if_same (fell_before g d c) (has_fallen g d c) (let e = was.cells c lt in let z : times c [] ≡ 0 = refl in omega arith)

  -- a pair is whole where it is enabled and none of its successors fell
  whole_parts : (pair : ℕ) → pair < pairs_of g → is_whole g accounts pair ≡ true → (0 < length (successors_at g pair)) × (gone_in g d pair ≡ 0)
  whole_parts pair lt e =
      let both = and_parts (nat_lt 0 (length (successors_at g pair))) (cut_count pair accounts == 0) e in
      (ltb-true 0 (length (successors_at g pair)) both.0, sym (was.cuts pair lt) ∙ eqb-true (cut_count pair accounts) 0 both.1)

  whole_from : (pair : ℕ) → pair < pairs_of g → 0 < length (successors_at g pair) → gone_in g d pair ≡ 0 → is_whole g accounts pair ≡ true
  whole_from pair lt some' none =
      and_from (nat_lt 0 (length (successors_at g pair))) (cut_count pair accounts == 0) (lt-ltb 0 (length (successors_at g pair)) some') (eq-eqb (cut_count pair accounts) 0 (was.cuts pair lt ∙ none))

  -- a cell without a row fell
  cut_if : (c u : ℕ) → c < g.cells → u < g.inputs → is_obstacle (mark_of g c) ≡ false → is_whole g accounts (pair_of g c u) ≡ false → is_enabled g (pair_of g c u) ≡ true → is_cell_cut g d (pair_of g c u) ≡ true
  cut_if c u lt lu clear broken enabled =
      let pair = pair_of g c u in
      let here : not (is_obstacle (mark_of g (pair / g.inputs))) ≡ true = ap (λ c. not (is_obstacle (mark_of g c))) (cell_of g c u lu) ∙ ap not clear in
      elim (cases_lt 0 (gone_in g d pair)) [
        | inl some' ↦ and_from (not (is_obstacle (mark_of g (pair / g.inputs)))) (nat_lt 0 (gone_in g d pair)) here (lt-ltb 0 (gone_in g d pair) some')
        | inr none ↦ absurd (let w = whole_from pair (pair_below g c u lt lu) (ltb-true 0 (length (successors_at g pair)) enabled) (omega arith) in cc)
      ]

  rowless_fell : (c : ℕ) → c < g.cells → IsRowDecoded g accounts c None → has_fallen g d c ≡ true
  rowless_fell c lt (inl m) = obstacle_falls g d c (ap is_obstacle m)
  rowless_fell c lt (inr none) =
      elim (cases_Bool (is_obstacle (mark_of g c))) [
        | inl blocked ↦ obstacle_falls g d c blocked
        | inr clear ↦
            falls_by_cell_cuts g d c (counts_agree.lesser (λ pair. one_if (is_enabled g pair)) (λ pair. one_if (is_cell_cut g d pair)) (pairs_at g c)
            (All-pairs_at g (λ pair. one_if (is_enabled g pair) ≤ one_if (is_cell_cut g d pair)) c (λ u lu.
            one_if_le (is_enabled g (pair_of g c u)) (is_cell_cut g d (pair_of g c u)) (cut_if c u lt lu clear (none u lu)))))
      ]

  -- a cell with a row stands
  row_stands : (c : ℕ) (row : Row) → c < g.cells → IsRowDecoded g accounts c (Some row) → has_fallen g d c ≡ false
  row_stands c row lt is =
      elim (cases_Bool (has_fallen g d c)) [
        | inr holds_before ↦ holds_before
        | inl fell ↦
            let pair = pair_of g c row.input in
            let all = cell_cuts_by_fall g d c (clear_if (mark_of g c) is.0) fell in
            let alike = counts_agree.pass_alike (is_cell_cut g d) (is_enabled g) (touched_enabled g (fell_before g d)) (pairs_at g c) all in
            let here : is_cell_cut g d pair ≡ is_enabled g pair = All-at_input g (λ pair. is_cell_cut g d pair ≡ is_enabled g pair) c alike row.input is.2 in
            let parts = whole_parts pair (pair_below g c row.input lt is.2) is.3 in
            let enabled : is_enabled g pair ≡ true = lt-ltb 0 (length (successors_at g pair)) parts.0 in
            let cut_cell = ltb-true 0 (gone_in g d pair) (and_parts (not (is_obstacle (mark_of g (pair / g.inputs)))) (nat_lt 0 (gone_in g d pair)) (here ∙ enabled)).1 in
            absurd (omega arith)
      ]

  -- so a cell has a row exactly where it didn't fall
  fell_is : (c : ℕ) → c < g.cells → fell_before g d c ≡ not (is_some (row_of rows c))
  fell_is c lt = over c lt ∙ by_row (row_of rows c) (told.each c lt)
    where
      by_row : (o : Option Row) → IsRowDecoded g accounts c o → has_fallen g d c ≡ not (is_some o)
      by_row None is = rowless_fell c lt is
      by_row (Some row) is = row_stands c row lt is

  has_row : (s : ℕ) → s < g.cells → fell_before g d s ≡ false → HasRow rows s
  has_row s lt e = a_row (row_of rows s) (sym (fell_is s lt) ∙ e)

  row_kept : (s : ℕ) → s < g.cells → HasRow rows s → fell_before g d s ≡ false
  row_kept s lt (row, e) = fell_is s lt ∙ ap (λ o. not (is_some o)) e

  -- a whole pair leads to rows, and a pair that leads to rows is whole
  whole_leads : (c u : ℕ) → c < g.cells → u < g.inputs → is_whole g accounts (pair_of g c u) ≡ true → LeadsToRows g rows c u
  whole_leads c u lt lu e =
      let pair = pair_of g c u in
      let lp = pair_below g c u lt lu in
      let parts = whole_parts pair lp e in
      let below = successors_within g a pair lp in
      let none = counts_agree.none_passes (fell_before g d) (successors_at g pair) parts.1 in
      ((lu, filled (successors_of g c u) parts.0), λ i e' li. has_row (get_or (successors_at g pair) i e') (below i e' li) (none i e' li))

  leads_whole : (c u : ℕ) → c < g.cells → LeadsToRows g rows c u → is_whole g accounts (pair_of g c u) ≡ true
  leads_whole c u lt leads =
      let pair = pair_of g c u in
      let lp = pair_below g c u lt leads.0.0 in
      let below = successors_within g a pair lp in
      whole_from pair lp (some_element (successors_of g c u) leads.0.1) (count_none (fell_before g d) (successors_at g pair) (λ i e li. row_kept (get_or (successors_at g pair) i e) (below i e li) (leads.1 i e li)))

  held : (c : ℕ) → c < g.cells → (o : Option Row) → IsRowDecoded g accounts c o → IsStable g rows c o
  held c lt None is = (d, rowless_fell c lt is)
  held c lt (Some row) is = record {
    clear = is.0;
    rank = is.1;
    leads = whole_leads c row.input lt is.2 is.3;
    least = λ v leads.
        elim (cases_lt v row.input) [
          | inr ge ↦ ge
          | inl less ↦ absurd (let whole = leads_whole c v lt leads in let broken = is.4 v less in cc)
        ];
  }

  pub settled : AreStable g rows
  settled = record { one_each = told.one_each; each = λ c lt. held c lt (row_of rows c) (told.each c lt) }

  -- the accounts have what the rows reckon
  unkept : (pair : ℕ) → pair < pairs_of g → gone_in g d pair ≡ unkept_in g rows pair
  unkept pair lt =
      let below = successors_within g a pair lt in
      counts_agree.alike (λ s. one_if (fell_before g d s)) (λ s. one_if (not (is_some (row_of rows s)))) (successors_at g pair) (λ i e li. ap one_if (fell_is (get_or (successors_at g pair) i e) (below i e li)))

  lost : (c : ℕ) → c < g.cells → cell_cuts_at g d c ≡ lost_at g rows c
  lost c lt =
      let below = pairs_below g c lt in
      counts_agree.alike (λ pair. one_if (is_cell_cut g d pair)) (λ pair. one_if (is_lost g rows pair)) (pairs_at g c) (λ i e li.
      let pair = get_or (pairs_at g c) i e in
      ap (λ n. one_if (not (is_obstacle (mark_of g (pair / g.inputs))) && nat_lt 0 n)) (unkept pair (below i e li)))

  pub reckoned : IsReckonedBy g rows accounts
  reckoned = record {
    cuts = λ pair lt. was.cuts pair lt ∙ unkept pair lt;
    cell_cuts = λ c lt. was.cell_cuts c lt ∙ lost c lt;
    no_other_cut = was.no_other_cut;
    no_offer = was.no_offer;
  }

  -- the tally
  abbrev counters : List ℕ
  counters = counters_of (cuts_in accounts)

  pub cuts_count : length (cuts_in accounts) ≡ sum_by (unkept_in g rows) (all_pairs g) + count_by (is_lost g rows) (all_pairs g)
  cuts_count =
      let len = length-map (cuts_in accounts) (λ (c : Cut). c.counter) in
      let all = counts_agree.of_all_below (pairs_of g + g.cells) counters (All-map (λ n. n < pairs_of g + g.cells) (λ (c : Cut). c.counter) (cuts_in accounts) was.no_other_cut) in
      let split = range_split (λ i. times i counters) 0 (pairs_of g) g.cells in
      let shift = range_shift (λ i. times i counters) (pairs_of g) 0 g.cells in
      let from : sum_by (λ i. times i counters) (range_with_len (0 + pairs_of g) g.cells) ≡ sum_by (λ i. times i counters) (range_with_len (pairs_of g + 0) g.cells) = ap (λ n. sum_by (λ i. times i counters) (range_with_len n g.cells)) {x = 0 + pairs_of g} {y = pairs_of g + 0} (omega arith) in
      let in' = All-range (pairs_of g) in
      let of_pairs = counts_agree.alike (λ i. times i counters) (unkept_in g rows) (all_pairs g) (λ i e li.
      let pair = get_or (all_pairs g) i e in
      sym (cuts_are pair accounts) ∙ reckoned.cuts pair (in' i e li)) in
      let in'' = All-range g.cells in
      let of_cells = counts_agree.alike (λ c. times (pairs_of g + c) counters) (lost_at g rows) (range_with_len 0 g.cells) (λ i e li.
      let c = get_or (range_with_len 0 g.cells) i e in
      sym (cuts_are (pairs_of g + c) accounts) ∙ reckoned.cell_cuts c (in'' i e li)) in
      let rows' = range_rows (λ pair. one_if (is_lost g rows pair)) g.inputs 0 g.cells in
      let begin : sum_by (λ pair. one_if (is_lost g rows pair)) (range_with_len (0 * g.inputs) (g.cells * g.inputs)) ≡ count_by (is_lost g rows) (all_pairs g) = ap (λ n. sum_by (λ pair. one_if (is_lost g rows pair)) (range_with_len n (g.cells * g.inputs))) {x = 0 * g.inputs} {y = 0} (omega arith) in
      omega arith

  pub few_cuts : length (cuts_in accounts) < 2 ^ 26
  few_cuts =
      let is = cuts_count in
      let le = counts_agree.lesser (unkept_in g rows) (λ pair. length (successors_at g pair)) (all_pairs g) (λ i e li. count_by-le-length (λ s. not (is_some (row_of rows s))) (successors_at g (get_or (all_pairs g) i e))) in
      let all = counts_agree.positions_of_lists length g.successors in
      let same : sum_by (λ pair. length (successors_at g pair)) (all_pairs g) ≡ sum_by (λ pair. length (successors_at g pair)) (range_with_len 0 (length g.successors)) = ap (λ n. sum_by (λ pair. length (successors_at g pair)) (range_with_len 0 n)) (sym a.game.one_list_each) in
      let edges = a.edges_bound in
      let less = count_by-le-length (is_lost g rows) (all_pairs g) in
      let len = length-range_with_len 0 (pairs_of g) in
      let pairs = a.pairs_bound in
      omega arith

  pub all_fell : FellBefore g rows d
  all_fell c lt none = fell_in g d c (fell_is c lt ∙ ap (λ o. not (is_some o)) none)

  pub no_sooner : IsFull g d → (n : ℕ) → FellBefore g rows n → d ≤ n
  no_sooner (inl zero') n before = omega arith
  no_sooner (inr (k, c, e, lt, fell, fresh)) n before =
      elim (cases_lt n d) [
        | inr le ↦ le
        | inl less ↦
            let gone : fell_before g d c ≡ true = subst (λ d. fell_before g d c ≡ true) (sym e) fell in
            let none = no_row (row_of rows c) (sym (fell_is c lt) ∙ gone) in
            let there = before c lt none in
            let early : fell_before g k c ≡ true = fell_later g (suc there.0) k c (omega arith) there.2 in
            absurd (cc)
      ]
