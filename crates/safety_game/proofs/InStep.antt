-- Cuts of cells and logs keep step with the cuts of pairs.
use Rattle.std.proofs.Common.{inl, inr, ◌≡◌, ◌≢◌, ℕ, ◌+◌, ◌-◌, ◌/◌, ◌<◌, ◌==◌, ◌&&◌, not, Bool, true, false, cond, List, [], ◌∷◌, ◌++◌, filter, length, get_or, All, sum_by, arith, refl, sym, ◌∙◌, ap, subst}
use Rattle.std.proofs.lemmas.Bool.{cases_eq}
use Rattle.std.proofs.lemmas.List.{map-append}
use Rattle.std.proofs.lemmas.List.Elements.{All-nil, All-cons, All-append, All-head, All-tail, filter-append}
use Rattle.board_rounds.specs.Crew.{cuts_in, logged_cells, counters_of, cut_to}
use Rattle.game_core.specs.Counts.{one_if, times}
use Rattle.cell_counters.specs.declared.account.Cut.{Cut}
use Rattle.cell_counters.specs.declared.account.Log.{Log}
use Rattle.cell_counters.specs.declared.account.Account.{Account}
use Rattle.cell_counters.specs.Accounts.{all_logs}
use Rattle.game_core.specs.Fallen.{is_obstacle}
use Rattle.game_core.specs.Game.{Game, mark_of, pairs_of, successors_at}
use Rattle.game_core.proofs.Times.{counts_agree}
use Rattle.safety_game.specs.KeepBoards.{pairs_at}
use Rattle.safety_game.specs.inside.KeepRounds.{firsts_in, cell_cuts_in, IsInStep}
use Rattle.safety_game.specs.inside.KeepSteps.{is_first_cut}
use Rattle.base.proofs.Counts.{sum_zeros}
use Rattle.safety_game.proofs.Counting.{times_single}
use Rattle.safety_game.proofs.Pairs.{at_home, away, pairs_below}
use Rattle.base.proofs.Times.{times-append, one_if_here, one_if_elsewhere}

abbrev pub cut : ℕ → ℕ → Cut
cut counter left = record { counter = counter; left = left }

pub counters-append : (xs ys : List Cut) → counters_of (xs ++ ys) ≡ counters_of xs ++ counters_of ys
counters-append xs ys = map-append (λ (c : Cut). c.counter) xs ys

pub times_counters : (n : ℕ) (xs ys : List Cut) → times n (counters_of (xs ++ ys)) ≡ times n (counters_of xs) + times n (counters_of ys)
times_counters n xs ys = ap (times n) (counters-append xs ys) ∙ times-append n (counters_of xs) (counters_of ys)

pub times_cut_to : (n v : ℕ) (xs ys : List Cut) → times n (cut_to v (xs ++ ys)) ≡ times n (cut_to v xs) + times n (cut_to v ys)
times_cut_to n v xs ys =
    let is = λ (c : Cut). c.left == v in
    ap (λ l. times n (counters_of l)) (filter-append is xs ys) ∙ times_counters n (filter is xs) (filter is ys)

-- one cut
pub one_counter : (n counter left : ℕ) → times n (counters_of (cut counter left ∷ [])) ≡ one_if (counter == n)
one_counter n counter left = times_single n counter

pub one_cut_to : (n v counter left : ℕ) → times n (cut_to v (cut counter left ∷ [])) ≡ cond (left == v) (one_if (counter == n)) 0
one_cut_to n v counter left = by_test (left == v)
  where
    by_test : (b : Bool) → times n (counters_of (cond b (cut counter left ∷ []) [])) ≡ cond b (one_if (counter == n)) 0
    by_test true = times_single n counter
    by_test false = refl

-- no cut counts none, whatever is left
zero_either : (b : Bool) → ◌≡◌ {A = ℕ} (cond b 0 0) 0
zero_either true = refl
zero_either false = refl

pub other_cut_to : (n v counter left : ℕ) → counter ≢ n → times n (cut_to v (cut counter left ∷ [])) ≡ 0
other_cut_to n v counter left ne = one_cut_to n v counter left ∙ (ap (λ m. cond (left == v) m 0) (one_if_elsewhere counter n ne) ∙ zero_either (left == v))

module _ (g : Game) where
  pub cell_cuts-append : (xs ys : List Cut) (c : ℕ) → cell_cuts_in g (xs ++ ys) c ≡ cell_cuts_in g xs c + cell_cuts_in g ys c
  cell_cuts-append xs ys c = by_mark (is_obstacle (mark_of g c))
    where
      all : sum_by (firsts_in g (xs ++ ys)) (pairs_at g c) ≡ sum_by (firsts_in g xs) (pairs_at g c) + sum_by (firsts_in g ys) (pairs_at g c)
      all =
          counts_agree.alike (firsts_in g (xs ++ ys)) (λ pair. firsts_in g xs pair + firsts_in g ys pair) (pairs_at g c)
          (λ i d lt. let p = get_or (pairs_at g c) i d in times_cut_to p (length (successors_at g p) - 1) xs ys)
          ∙ counts_agree.added (firsts_in g xs) (firsts_in g ys) (pairs_at g c)

      by_mark : (b : Bool) → cond b 0 (sum_by (firsts_in g (xs ++ ys)) (pairs_at g c)) ≡ cond b 0 (sum_by (firsts_in g xs) (pairs_at g c)) + cond b 0 (sum_by (firsts_in g ys) (pairs_at g c))
      by_mark true = refl
      by_mark false = all

  -- where nothing was a pair's first cut, no cell is cut
  pub no_cell_cuts : (cuts : List Cut) (c : ℕ) → All (λ pair. firsts_in g cuts pair ≡ 0) (pairs_at g c) → cell_cuts_in g cuts c ≡ 0
  no_cell_cuts cuts c none = by_mark (is_obstacle (mark_of g c))
    where
      by_mark : (b : Bool) → cond b 0 (sum_by (firsts_in g cuts) (pairs_at g c)) ≡ 0
      by_mark true = refl
      by_mark false = sum_zeros (firsts_in g cuts) (pairs_at g c) none

  pub nothing_in_step : IsInStep g [] []
  nothing_in_step = record {
    cells = λ c lt. sym (no_cell_cuts [] c (λ i d li. refl));
    logs = λ c. refl;
    no_other_cut = All-nil (λ (c : Cut). c.counter < pairs_of g + g.cells);
  }

  pub in_step-append : (xs ys : List Cut) (ls ms : List ℕ) → IsInStep g xs ls → IsInStep g ys ms → IsInStep g (xs ++ ys) (ls ++ ms)
  in_step-append xs ys ls ms x y = record {
    cells = λ c lt.
        omega (arith, times_counters (pairs_of g + c) xs ys, cell_cuts-append xs ys c);
    logs = λ c.
        omega (arith, times-append c ls ms, times_cut_to (pairs_of g + c) 0 xs ys, x.logs c, y.logs c);
    no_other_cut = All-append (λ (c : Cut). c.counter < pairs_of g + g.cells) xs ys x.no_other_cut y.no_other_cut;
  }

  -- so do all accounts, where each does
  pub all_in_step : (more : List Account) → All (λ (a : Account). IsInStep g a.cuts (logged_cells a.logs)) more → IsInStep g (cuts_in more) (logged_cells (all_logs more))
  all_in_step [] h = nothing_in_step
  all_in_step (a ∷ more) h =
      subst (IsInStep g (a.cuts ++ cuts_in more)) (sym (map-append (λ (l : Log). l.cell) a.logs (all_logs more)))
      (in_step-append a.cuts (cuts_in more) (logged_cells a.logs) (logged_cells (all_logs more))
      (All-head (λ (a : Account). IsInStep g a.cuts (logged_cells a.logs)) a more h)
      (all_in_step more (All-tail (λ (a : Account). IsInStep g a.cuts (logged_cells a.logs)) a more h)))

-- the cut of one pair, and of its cell after the pair's first cut
module _ (g : Game) (some' : 0 < g.inputs) (pair left : ℕ) (lt : pair < pairs_of g) where
  abbrev is_first : Bool
  is_first = left == length (successors_at g pair) - 1

  firsts_of_one : (q : ℕ) → firsts_in g (cut pair left ∷ []) q ≡ cond is_first (one_if (q == pair)) 0
  firsts_of_one q =
      elim (cases_eq q pair) [
        | inl e ↦
            subst (λ q. firsts_in g (cut pair left ∷ []) q ≡ cond is_first (one_if (q == pair)) 0) (sym e) (one_cut_to pair (length (successors_at g pair) - 1) pair left)
        | inr ne ↦
            let none = other_cut_to q (length (successors_at g q) - 1) pair left (λ e. ne (sym e)) in
            none ∙ sym (ap (λ m. cond is_first m 0) (one_if_elsewhere q pair ne) ∙ zero_either is_first)
      ]

  -- how many firsts of pairs of a cell that cut is
  firsts_at : (c : ℕ) → sum_by (firsts_in g (cut pair left ∷ [])) (pairs_at g c) ≡ cond is_first (times pair (pairs_at g c)) 0
  firsts_at c =
      counts_agree.alike (firsts_in g (cut pair left ∷ [])) (λ q. cond is_first (one_if (q == pair)) 0) (pairs_at g c) (λ i d li. firsts_of_one (get_or (pairs_at g c) i d))
      ∙ by_test is_first
    where
      by_test : (b : Bool) → sum_by (λ q. cond b (one_if (q == pair)) 0) (pairs_at g c) ≡ cond b (times pair (pairs_at g c)) 0
      by_test true = refl
      by_test false = sum_zeros (λ q. 0) (pairs_at g c) (λ i d li. refl)

  -- a pair is no cell
  no_cell : (c : ℕ) → pair ≢ pairs_of g + c
  no_cell c e = absurd (omega arith)

  -- without a first cut no cell is cut
  quiet_hits : is_first_cut g pair left ≡ false → (c : ℕ) → cell_cuts_in g (cut pair left ∷ []) c ≡ 0
  quiet_hits quiet c = by_mark (is_obstacle (mark_of g c)) refl is_first refl
    where
      by_mark : (b : Bool) → is_obstacle (mark_of g c) ≡ b → (f : Bool) → is_first ≡ f → cond b 0 (sum_by (firsts_in g (cut pair left ∷ [])) (pairs_at g c)) ≡ 0
      by_mark true e f h = refl
      by_mark false e false h = firsts_at c ∙ ap (λ f. cond f (times pair (pairs_at g c)) 0) h
      by_mark false e true h =
          firsts_at c
          ∙ (ap (λ f. cond f (times pair (pairs_at g c)) 0) h
          ∙ away g some' pair c (λ same.
          cc))

  pub quiet_in_step : is_first_cut g pair left ≡ false → IsInStep g (cut pair left ∷ []) []
  quiet_in_step quiet = record {
    cells = λ c li. one_counter (pairs_of g + c) pair left ∙ (one_if_elsewhere pair (pairs_of g + c) (no_cell c) ∙ sym (quiet_hits quiet c));
    logs = λ c. sym (other_cut_to (pairs_of g + c) 0 pair left (no_cell c));
    no_other_cut = All-cons (λ (c : Cut). c.counter < pairs_of g + g.cells) (cut pair left) [] (omega arith) (All-nil (λ (c : Cut). c.counter < pairs_of g + g.cells));
  }

  -- a pair's first cut is a cut of its cell, and of no other
  blow_parts : is_first_cut g pair left ≡ true → (is_first ≡ true) × (is_obstacle (mark_of g (pair / g.inputs)) ≡ false)
  blow_parts e = parts is_first (is_obstacle (mark_of g (pair / g.inputs))) e
    where
      parts : (f b : Bool) → (f && not b) ≡ true → (f ≡ true) × (b ≡ false)
      parts true true e = absurd (cc)
      parts true false e = (refl, refl)
      parts false b e = absurd (cc)

  blow_hits : is_first_cut g pair left ≡ true → (c : ℕ) → cell_cuts_in g (cut pair left ∷ []) c ≡ one_if (pair / g.inputs == c)
  blow_hits first_cut c =
      let parts = blow_parts first_cut in
      let first = firsts_at c ∙ ap (λ f. cond f (times pair (pairs_at g c)) 0) parts.0 in
      elim (cases_eq (pair / g.inputs) c) [
        | inl e ↦
            let clear : is_obstacle (mark_of g c) ≡ false = ap (λ c. is_obstacle (mark_of g c)) (sym e) ∙ parts.1 in
            ap (λ b. cond b 0 (sum_by (firsts_in g (cut pair left ∷ [])) (pairs_at g c))) clear
            ∙ (first ∙ (ap (λ c. times pair (pairs_at g c)) (sym e) ∙ (at_home g some' pair ∙ sym (one_if_here (pair / g.inputs) c e))))
        | inr ne ↦ other (is_obstacle (mark_of g c)) (first ∙ away g some' pair c ne) ∙ sym (one_if_elsewhere (pair / g.inputs) c ne)
      ]
    where
      other : (b : Bool) → sum_by (firsts_in g (cut pair left ∷ [])) (pairs_at g c) ≡ 0 → cond b 0 (sum_by (firsts_in g (cut pair left ∷ [])) (pairs_at g c)) ≡ 0
      other true e = refl
      other false e = e

  module _ (cell_left : ℕ) (inside : pair / g.inputs < g.cells) where
    abbrev cell : ℕ
    cell = pair / g.inputs

    abbrev second : List Cut
    second = cut (pairs_of g + cell) cell_left ∷ []

    -- the cut of the cell is no pair's
    second_hits : (c : ℕ) → c < g.cells → cell_cuts_in g second c ≡ 0
    second_hits c lc =
        let below = pairs_below g c lc in
        no_cell_cuts g second c (λ i d li.
        let p = get_or (pairs_at g c) i d in
        other_cut_to p (length (successors_at g p) - 1) (pairs_of g + cell) cell_left (λ e. let l = below i d li in absurd (omega arith)))

    same_counter : (c : ℕ) → one_if (pairs_of g + cell == pairs_of g + c) ≡ one_if (cell == c)
    same_counter c =
        elim (cases_eq cell c) [
          | inl e ↦ one_if_here (pairs_of g + cell) (pairs_of g + c) (ap (λ c. pairs_of g + c) e) ∙ sym (one_if_here cell c e)
          | inr ne ↦ one_if_elsewhere (pairs_of g + cell) (pairs_of g + c) (λ e. ne (omega arith)) ∙ sym (one_if_elsewhere cell c ne)
        ]

    logged_once : (c : ℕ) (b : Bool) → times c (cond b (cell ∷ []) []) ≡ cond b (one_if (cell == c)) 0
    logged_once c true = times_single c cell
    logged_once c false = refl

    pub first_cut_in_step : is_first_cut g pair left ≡ true → IsInStep g ((cut pair left ∷ []) ++ second) (cond (cell_left == 0) (cell ∷ []) [])
    first_cut_in_step first_cut = record {
      cells = λ c lc.
          let no_pair = one_if_elsewhere pair (pairs_of g + c) (no_cell c) in
          let same = same_counter c in
          let cell_cuts = cell_cuts-append g (cut pair left ∷ []) second c in
          let first = blow_hits first_cut c in
          let rest = second_hits c lc in
          omega arith;
      logs = λ c.
          let both = times_cut_to (pairs_of g + c) 0 (cut pair left ∷ []) second in
          let none = other_cut_to (pairs_of g + c) 0 pair left (no_cell c) in
          let one = one_cut_to (pairs_of g + c) 0 (pairs_of g + cell) cell_left in
          let same = ap (λ m. cond (cell_left == 0) m 0) (same_counter c) in
          let is = logged_once c (cell_left == 0) in
          omega arith;
      no_other_cut =
          All-cons (λ (c : Cut). c.counter < pairs_of g + g.cells) (cut pair left) second (omega arith)
          (All-cons (λ (c : Cut). c.counter < pairs_of g + g.cells) (cut (pairs_of g + cell) cell_left) [] (omega arith) (All-nil (λ (c : Cut). c.counter < pairs_of g + g.cells)));
    }
