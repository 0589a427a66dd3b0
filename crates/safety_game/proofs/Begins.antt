-- Before the first round, and how the rounds come to an end.
use Rattle.std.proofs.Common.{inr, ◌≡◌, ℕ, suc, ◌+◌, ◌/◌, ◌<◌, ◌≤◌, ◌==◌, ◌&&◌, not, Bool, true, false, cond, List, [], length, get_or, arith, refl, sym, ◌∙◌, ap, eq-eqb, ne_eqb}
use Rattle.std.specs.List.{range_with_len}
use Rattle.std.proofs.Math.Bool.{and-false}
use Rattle.std.proofs.lemmas.Bool.{le-ltb}
use Rattle.std.proofs.lemmas.List.{length-map}
use Rattle.std.proofs.lemmas.List.Elements.{All-nil, All-filter, Contains-get_or}
use Rattle.std.proofs.lemmas.List.FromFn.{length-range_with_len}
use Rattle.std.proofs.lemmas.List.Sums.{sum_by-le}
use Rattle.board_rounds.specs.Crew.{logged_cells}
use Rattle.game_core.specs.Counts.{one_if, times}
use Rattle.cell_counters.specs.declared.account.Cut.{Cut}
use Rattle.cell_counters.specs.declared.account.Log.{Log}
use Rattle.cell_counters.specs.declared.account.Account.{Account}
use Rattle.cell_counters.specs.Accounts.{all_logs, log_count}
use Rattle.cell_counters.proofs.Consequences.{nothing_done}
use Rattle.game_core.specs.Fallen.{is_obstacle, has_fallen}
use Rattle.game_core.specs.Game.{Game, IsGraph, mark_of, pairs_of, successors_at}
use Rattle.game_core.proofs.Times.{counts_agree}
use Rattle.safety_game.specs.KeepBoards.{pairs_at, enabled_at}
use Rattle.safety_game.specs.inside.KeepRounds.{fell_before, gone_in, is_cell_cut, cell_cuts_at, AreFalling, first_fallen, IsFull}
use Rattle.base.proofs.Counts.{count_none}
use Rattle.board_rounds.proofs.Graphs.{few_successors}
use Rattle.board_rounds.proofs.Sums.{fresh, All-range}
use Rattle.safety_game.proofs.Falls.{falls_by_cell_cuts, cell_cuts_by_fall}
use Rattle.safety_game.proofs.Pairs.{few_enabled}

one_if_most : (b : Bool) → one_if b ≤ 1
one_if_most true = omega arith
one_if_most false = omega arith

module _ (g : Game) where
  none_gone : (pair : ℕ) → gone_in g 0 pair ≡ 0
  none_gone pair = count_none (fell_before g 0) (successors_at g pair) (λ i d lt. refl)

  none_cut : (c : ℕ) → cell_cuts_at g 0 c ≡ 0
  none_cut c = count_none (is_cell_cut g 0) (pairs_at g c) (λ i d lt. unhit (get_or (pairs_at g c) i d))
    where
      unhit : (pair : ℕ) → is_cell_cut g 0 pair ≡ false
      unhit pair =
          let e = none_gone pair in
          ap (λ b. not (is_obstacle (mark_of g (pair / g.inputs))) && b) (le-ltb 0 (gone_in g 0 pair) (omega arith)) ∙ and-false (not (is_obstacle (mark_of g (pair / g.inputs))))

  module _ (a : IsGraph g) where
    -- the list of the first round
    first_cells : (c : ℕ) → c < g.cells → times c (first_fallen g) ≡ one_if (has_fallen g 0 c)
    first_cells c lt = counts_agree.filtered (has_fallen g 0) c (range_with_len 0 g.cells) ∙ by_test (has_fallen g 0 c)
      where
        by_test : (b : Bool) → cond b (times c (range_with_len 0 g.cells)) 0 ≡ one_if b
        by_test true = counts_agree.in_range c 0 g.cells (omega arith) (omega arith)
        by_test false = refl

    -- a cell that is no obstacle falls in round 0 where it has no enabled input
    pub falls_first : (c : ℕ) → is_obstacle (mark_of g c) ≡ false → (enabled_at g c == 0) ≡ has_fallen g 0 c
    falls_first c clear = by_test (has_fallen g 0 c) refl
      where
        by_test : (b : Bool) → has_fallen g 0 c ≡ b → (enabled_at g c == 0) ≡ b
        by_test true e = let le = cell_cuts_by_fall g 0 c clear e in let none = none_cut c in eq-eqb (enabled_at g c) 0 (omega arith)
        by_test false e = ne_eqb (enabled_at g c) 0 (λ z. absurd (let f = falls_by_cell_cuts g 0 c (omega arith) in cc))

    -- before any round nothing is cut
    pub begins : AreFalling g 0 (first_fallen g) []
    begins = record {
      lawful = record {
        pairs = λ pair lt. (length (successors_at g pair), nothing_done.0 pair (length (successors_at g pair)) (let few = few_successors g a pair lt in omega arith));
        cells = λ c lt. (enabled_at g c, nothing_done.0 (pairs_of g + c) (enabled_at g c) (let few = few_enabled g c in let most = a.inputs_bound in omega arith));
      };
      cuts = λ pair lt. sym (none_gone pair);
      cell_cuts = λ c lt. sym (none_cut c);
      no_other_cut = All-nil (λ (c : Cut). c.counter < pairs_of g + g.cells);
      no_offer = refl;
      came = λ c lt. let z : times c [] ≡ 0 = refl in omega arith;
      logged = All-nil (λ c. c < g.cells);
      cells = λ c lt. let e = first_cells c lt in omega arith;
      within = All-filter (has_fallen g 0) (λ c. c < g.cells) (range_with_len 0 g.cells) (All-range g.cells);
    }

    module _ (d : ℕ) (list : List ℕ) (accounts : List Account) (was : AreFalling g d list accounts) where
      -- a list that isn't empty has a cell that falls in its round
      pub full_after : 0 < length list → IsFull g (suc d)
      full_after some' =
          let c = get_or list 0 0 in
          let lt = was.within 0 0 some' in
          let tests = fresh (fell_before g d c) (has_fallen g d c) (times c list) (counts_agree.counted c list (Contains-get_or list 0 0 some')) (was.cells c lt) in
          inr (d, c, refl, lt, tests.1, tests.0)

      -- each cell is logged at most once
      pub few_logs : log_count accounts ≤ g.cells
      few_logs =
          let logged = logged_cells (all_logs accounts) in
          let all = counts_agree.of_all_below g.cells logged was.logged in
          let many : length logged ≡ log_count accounts = length-map (all_logs accounts) (λ (l : Log). l.cell) in
          let in' = All-range g.cells in
          let le = sum_by-le (λ c. times c logged) 1 (range_with_len 0 g.cells) (λ i e li.
          let c = get_or (range_with_len 0 g.cells) i e in
          let most = one_if_most (has_fallen g d c) in
          omega arith) in
          omega (arith, length-range_with_len 0 g.cells)
