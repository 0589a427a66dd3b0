-- A round leads on: what stood before it stands after it, one round later.
use Rattle.std.proofs.Common.{inl, inr, ◌≡◌, ℕ, suc, ◌+◌, ◌-◌, ◌/◌, ◌<◌, ◌≤◌, ◌==◌, ◌&&◌, not, nat_lt, Bool, true, false, cond, List, ◌++◌, length, get_or, All, sum_by, arith, refl, sym, ◌∙◌, ap, ap₂, subst}
use Rattle.std.proofs.lemmas.Bool.{cases_lt, cases_Bool, lt-ltb, le-ltb}
use Rattle.std.proofs.lemmas.List.Elements.{All-append, All-map, All-contains, Contains-get_or}
use Rattle.std.proofs.lemmas.List.Sums.{count_by-le-length}
use Rattle.board_rounds.specs.Rules.{IsRound}
use Rattle.board_rounds.specs.Crew.{cuts_in, logged_cells, counters_of}
use Rattle.game_core.specs.Counts.{one_if, times}
use Rattle.board_rounds.proofs.Accounts.{cuts_are, cuts_to_are}
use Rattle.cell_counters.specs.declared.account.Cut.{Cut}
use Rattle.cell_counters.specs.declared.account.Account.{Account}
use Rattle.cell_counters.specs.Accounts.{all_answers, cut_count, all_logs}
use Rattle.cell_counters.specs.Laws.{times_answered}
use Rattle.cell_counters.proofs.Consequences.{new_answers}
use Rattle.game_core.specs.Fallen.{is_obstacle, has_fallen}
use Rattle.game_core.specs.Game.{Game, IsGraph, mark_of, pairs_of, successors_at}
use Rattle.game_core.proofs.Times.{counts_agree}
use Rattle.safety_game.specs.KeepBoards.{pairs_at, enabled_at}
use Rattle.safety_game.specs.inside.KeepRounds.{fell_before, gone_in, is_cell_cut, cell_cuts_at, IsLawfulFor, AreFalling, firsts_in, cell_cuts_in, IsInStep, KeepsRule}
use Rattle.safety_game.proofs.Pairs.{cell_of, pairs_below, All-pairs_at, few_enabled}
use Rattle.safety_game.proofs.Falls.{fell_stays, gone_few, cell_cuts_few, falls_by_cell_cuts, cell_cuts_by_fall, obstacle_falls, obstacle_unhit}
use Rattle.board_rounds.proofs.Accounts.{cuts_in-append, offers_in-append, logged_cells-append, cut_count-append}
use Rattle.board_rounds.proofs.Graphs.{successors_within, few_successors}
use Rattle.safety_game.proofs.Added.{none_offered, round_in_step}
use Rattle.base.proofs.Times.{times-append}

answered_few : (counter v : ℕ) (accounts : List Account) → times_answered counter v accounts ≤ cut_count counter accounts
answered_few counter v accounts = count_by-le-length (λ answer. answer == v) (all_answers counter accounts)

module _ (g : Game) (a : IsGraph g) (d : ℕ) (list : List ℕ) (accounts more : List Account) (was : AreFalling g d list accounts) (r : IsRound g (KeepsRule g) list more) (lawful : IsLawfulFor g (accounts ++ more)) where
  in_step : IsInStep g (cuts_in more) (logged_cells (all_logs more))
  in_step = round_in_step g more r.each

  -- the cuts of pairs
  new_cuts : (pair : ℕ) → pair < pairs_of g → cut_count pair more + gone_in g d pair ≡ gone_in g (suc d) pair
  new_cuts pair lt =
      let below = successors_within g a pair lt in
      let both = counts_agree.added (λ s. times s list) (λ s. one_if (fell_before g d s)) (successors_at g pair) in
      let alike = counts_agree.alike (λ s. times s list + one_if (fell_before g d s)) (λ s. one_if (fell_before g (suc d) s)) (successors_at g pair) (λ i e li. was.cells (get_or (successors_at g pair) i e) (below i e li)) in
      omega arith

  pub cuts : (pair : ℕ) → pair < pairs_of g → cut_count pair (accounts ++ more) ≡ gone_in g (suc d) pair
  cuts pair lt =
      omega (arith, cut_count-append pair accounts more, new_cuts pair lt)

  -- a pair has its first cut in this round exactly where it has a cut now and had none before
  first : (pair : ℕ) → pair < pairs_of g → firsts_in g (cuts_in more) pair + one_if (nat_lt 0 (gone_in g d pair)) ≡ one_if (nat_lt 0 (gone_in g (suc d) pair))
  first pair lt =
      let fan = length (successors_at g pair) in
      let is = cuts_to_are pair (fan - 1) more in
      let before = was.cuts pair lt in
      let after = cuts pair lt in
      let most = gone_few g (suc d) pair in
      let few = answered_few pair (fan - 1) more in
      let new = new_cuts pair lt in
      let short = few_successors g a pair lt in
      elim (cases_lt 0 (gone_in g d pair)) [
        | inl had ↦
            let b : one_if (nat_lt 0 (gone_in g d pair)) ≡ 1 = ap one_if (lt-ltb 0 (gone_in g d pair) had) in
            let n : one_if (nat_lt 0 (gone_in g (suc d) pair)) ≡ 1 = ap one_if (lt-ltb 0 (gone_in g (suc d) pair) (omega arith)) in
            let e = (law (omega arith)).1 (omega arith) in
            omega arith
        | inr none' ↦
            let b : one_if (nat_lt 0 (gone_in g d pair)) ≡ 0 = ap one_if (le-ltb 0 (gone_in g d pair) none') in
            elim (cases_lt 0 (gone_in g (suc d) pair)) [
              | inl has ↦
                  let n : one_if (nat_lt 0 (gone_in g (suc d) pair)) ≡ 1 = ap one_if (lt-ltb 0 (gone_in g (suc d) pair) has) in
                  let e = (law (omega arith)).0 (omega arith) (omega arith) in
                  omega arith
              | inr none'' ↦
                  omega (arith, ap one_if (le-ltb 0 (gone_in g (suc d) pair) none''))
            ]
      ]
    where
      law : 0 < length (successors_at g pair)
          → (cut_count pair accounts + (length (successors_at g pair) - 1) < length (successors_at g pair) → length (successors_at g pair) ≤ cut_count pair (accounts ++ more) + (length (successors_at g pair) - 1) → times_answered pair (length (successors_at g pair) - 1) more ≡ 1)
          × (length (successors_at g pair) ≤ cut_count pair accounts + (length (successors_at g pair) - 1) → times_answered pair (length (successors_at g pair) - 1) more ≡ 0)
          × (cut_count pair (accounts ++ more) + (length (successors_at g pair) - 1) < length (successors_at g pair) → times_answered pair (length (successors_at g pair) - 1) more ≡ 0)
      law some' =
          let fan = length (successors_at g pair) in
          let was' = was.lawful.pairs pair lt in
          let now' = lawful.pairs pair lt in
          let after = cuts pair lt in
          let most = gone_few g (suc d) pair in
          let short = few_successors g a pair lt in
          new_answers accounts more pair fan was'.0 now'.0 was'.1 now'.1 (omega arith) (omega arith) (fan - 1) (omega arith)

  -- the cuts of cells
  clear_hits : (c : ℕ) → c < g.cells → is_obstacle (mark_of g c) ≡ false → sum_by (firsts_in g (cuts_in more)) (pairs_at g c) + cell_cuts_at g d c ≡ cell_cuts_at g (suc d) c
  clear_hits c lt clear =
      let below = pairs_below g c lt in
      let plain = All-pairs_at g (λ pair. is_obstacle (mark_of g (pair / g.inputs)) ≡ false) c (λ u lu. ap (λ c. is_obstacle (mark_of g c)) (cell_of g c u lu) ∙ clear) in
      let both = counts_agree.added (firsts_in g (cuts_in more)) (λ pair. one_if (is_cell_cut g d pair)) (pairs_at g c) in
      let alike = counts_agree.alike (λ pair. firsts_in g (cuts_in more) pair + one_if (is_cell_cut g d pair)) (λ pair. one_if (is_cell_cut g (suc d) pair)) (pairs_at g c) (λ i e li.
      let pair = get_or (pairs_at g c) i e in
      let f = first pair (below i e li) in
      let was' : one_if (is_cell_cut g d pair) ≡ one_if (nat_lt 0 (gone_in g d pair)) = ap (λ b. one_if (not b && nat_lt 0 (gone_in g d pair))) (plain i e li) in
      let now' : one_if (is_cell_cut g (suc d) pair) ≡ one_if (nat_lt 0 (gone_in g (suc d) pair)) = ap (λ b. one_if (not b && nat_lt 0 (gone_in g (suc d) pair))) (plain i e li) in
      omega arith) in
      omega arith

  new_cell_cuts : (c : ℕ) → c < g.cells → cut_count (pairs_of g + c) more + cell_cuts_at g d c ≡ cell_cuts_at g (suc d) c
  new_cell_cuts c lt =
      let is = cuts_are (pairs_of g + c) more in
      let step = in_step.cells c lt in
      elim (cases_Bool (is_obstacle (mark_of g c))) [
        | inl blocked ↦
            let none : cell_cuts_in g (cuts_in more) c ≡ 0 = ap (λ b. cond b 0 (sum_by (firsts_in g (cuts_in more)) (pairs_at g c))) blocked in
            let before = obstacle_unhit g d c blocked in
            let after = obstacle_unhit g (suc d) c blocked in
            omega arith
        | inr clear ↦
            let counted_cuts : cell_cuts_in g (cuts_in more) c ≡ sum_by (firsts_in g (cuts_in more)) (pairs_at g c) = ap (λ b. cond b 0 (sum_by (firsts_in g (cuts_in more)) (pairs_at g c))) clear in
            let e = clear_hits c lt clear in
            omega arith
      ]

  pub cell_cuts : (c : ℕ) → c < g.cells → cut_count (pairs_of g + c) (accounts ++ more) ≡ cell_cuts_at g (suc d) c
  cell_cuts c lt =
      omega (arith, cut_count-append (pairs_of g + c) accounts more, new_cell_cuts c lt)

  -- a cell is logged in this round exactly where it has fallen now and hadn't before
  falls : (c : ℕ) → c < g.cells → times c (logged_cells (all_logs more)) + one_if (has_fallen g d c) ≡ one_if (has_fallen g (suc d) c)
  falls c lt =
      let is = cuts_to_are (pairs_of g + c) 0 more in
      let log = in_step.logs c in
      let new = new_cell_cuts c lt in
      let few = answered_few (pairs_of g + c) 0 more in
      let most = cell_cuts_few g (suc d) c in
      elim (cases_Bool (is_obstacle (mark_of g c))) [
        | inl blocked ↦
            let before = obstacle_unhit g d c blocked in
            let after = obstacle_unhit g (suc d) c blocked in
            let b : one_if (has_fallen g d c) ≡ 1 = ap one_if (obstacle_falls g d c blocked) in
            let n : one_if (has_fallen g (suc d) c) ≡ 1 = ap one_if (obstacle_falls g (suc d) c blocked) in
            omega arith
        | inr clear ↦
            elim (cases_lt 0 (enabled_at g c)) [
              | inr none' ↦
                  let b : one_if (has_fallen g d c) ≡ 1 = ap one_if (falls_by_cell_cuts g d c (omega arith)) in
                  let n : one_if (has_fallen g (suc d) c) ≡ 1 = ap one_if (falls_by_cell_cuts g (suc d) c (omega arith)) in
                  omega arith
              | inl some' ↦ let e = by_tests clear some' (has_fallen g d c) (has_fallen g (suc d) c) refl refl in omega arith
            ]
      ]
    where
      by_tests : is_obstacle (mark_of g c) ≡ false → 0 < enabled_at g c → (b n : Bool) → has_fallen g d c ≡ b → has_fallen g (suc d) c ≡ n → times_answered (pairs_of g + c) 0 more + one_if b ≡ one_if n
      by_tests clear some' b n eb en =
          let start = enabled_at g c in
          let was' = was.lawful.cells c lt in
          let now' = lawful.cells c lt in
          let before = was.cell_cuts c lt in
          let after = cell_cuts c lt in
          let most = cell_cuts_few g (suc d) c in
          let few = few_enabled g c in
          let small = a.inputs_bound in
          cases b n eb en (new_answers accounts more (pairs_of g + c) start was'.0 now'.0 was'.1 now'.1 (omega arith) (omega arith) 0 some') before after
        where
          cases : (b n : Bool) → has_fallen g d c ≡ b → has_fallen g (suc d) c ≡ n
              → (cut_count (pairs_of g + c) accounts + 0 < enabled_at g c → enabled_at g c ≤ cut_count (pairs_of g + c) (accounts ++ more) + 0 → times_answered (pairs_of g + c) 0 more ≡ 1)
              × (enabled_at g c ≤ cut_count (pairs_of g + c) accounts + 0 → times_answered (pairs_of g + c) 0 more ≡ 0)
              × (cut_count (pairs_of g + c) (accounts ++ more) + 0 < enabled_at g c → times_answered (pairs_of g + c) 0 more ≡ 0)
              → cut_count (pairs_of g + c) accounts ≡ cell_cuts_at g d c
              → cut_count (pairs_of g + c) (accounts ++ more) ≡ cell_cuts_at g (suc d) c
              → times_answered (pairs_of g + c) 0 more + one_if b ≡ one_if n
          cases true true eb en law before after = let all = cell_cuts_by_fall g d c clear eb in let e = law.1 (omega arith) in omega arith
          cases true false eb en law before after = absurd (let stay = fell_stays g (suc d) c eb in cc)
          cases false true eb en law before after =
              let all = cell_cuts_by_fall g (suc d) c clear en in
              elim (cases_lt (cell_cuts_at g d c) (enabled_at g c)) [
                | inl less ↦ let e = law.0 (omega arith) (omega arith) in omega arith
                | inr full ↦ absurd (let f = falls_by_cell_cuts g d c full in cc)
              ]
          cases false false eb en law before after =
              elim (cases_lt (cell_cuts_at g (suc d) c) (enabled_at g c)) [
                | inl less ↦ let e = law.2 (omega arith) in omega arith
                | inr full ↦ absurd (let f = falls_by_cell_cuts g (suc d) c full in cc)
              ]

  -- the cells that are logged are cells
  logged_within : All (λ c. c < g.cells) (logged_cells (all_logs more))
  logged_within i e lt =
      let c = get_or (logged_cells (all_logs more)) i e in
      let some' = counts_agree.counted c (logged_cells (all_logs more)) (Contains-get_or (logged_cells (all_logs more)) i e lt) in
      let log = in_step.logs c in
      let is = cuts_to_are (pairs_of g + c) 0 more in
      let few = answered_few (pairs_of g + c) 0 more in
      let all = cuts_are (pairs_of g + c) more in
      let has = counts_agree.found (pairs_of g + c) (counters_of (cuts_in more)) (omega arith) in
      let below = All-contains (λ n. n < pairs_of g + g.cells) (counters_of (cuts_in more)) (pairs_of g + c) (All-map (λ n. n < pairs_of g + g.cells) (λ (c : Cut). c.counter) (cuts_in more) in_step.no_other_cut) has in
      omega arith

  -- the next list has the cells that were logged
  pub round_leads_on : (next : List ℕ) → ((c : ℕ) → times c next ≡ times c (logged_cells (all_logs more))) → AreFalling g (suc d) next (accounts ++ more)
  round_leads_on next same = record {
    lawful = lawful;
    cuts = cuts;
    cell_cuts = cell_cuts;
    no_other_cut = subst (λ l. All (λ (c : Cut). c.counter < pairs_of g + g.cells) l) (sym (cuts_in-append accounts more)) (All-append (λ (c : Cut). c.counter < pairs_of g + g.cells) (cuts_in accounts) (cuts_in more) was.no_other_cut in_step.no_other_cut);
    no_offer = offers_in-append accounts more ∙ ap₂ ◌++◌ was.no_offer (none_offered g more r.each);
    came = λ c lt.
        let both = ap (times c) (logged_cells-append accounts more) ∙ times-append c (logged_cells (all_logs accounts)) (logged_cells (all_logs more)) in
        let now = falls c lt in
        omega arith;
    logged = subst (λ l. All (λ c. c < g.cells) l) (sym (logged_cells-append accounts more)) (All-append (λ c. c < g.cells) (logged_cells (all_logs accounts)) (logged_cells (all_logs more)) was.logged logged_within);
    cells = λ c lt. let e = same c in let now = falls c lt in omega arith;
    within = λ i e lt.
        let c = get_or next i e in
        let some' = counts_agree.counted c next (Contains-get_or next i e lt) in
        let is = same c in
        All-contains (λ c. c < g.cells) (logged_cells (all_logs more)) c logged_within (counts_agree.found c (logged_cells (all_logs more)) (omega arith));
  }
