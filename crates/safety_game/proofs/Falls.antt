-- When a cell falls, said by how many of its pairs are lost.
use Rattle.std.proofs.Common.{inl, inr, ◌≡◌, ℕ, zero, suc, ◌+◌, ◌-◌, ◌/◌, ◌<◌, ◌≤◌, ◌==◌, ◌&&◌, ◌||◌, not, nat_lt, Bool, true, false, length, get_or, count_by, arith, refl, sym, ◌∙◌, ap, subst, ne_eqb}
use Rattle.std.specs.List.{list_any, range_with_len}
use Rattle.std.proofs.Math.Bool.{or-true}
use Rattle.std.proofs.lemmas.Bool.{or_cases, and_parts, and_from, lt-ltb, le-ltb, ltb-true}
use Rattle.std.proofs.lemmas.List.FromFn.{length-range_with_len, get_or-range_with_len}
use Rattle.std.proofs.lemmas.List.Sums.{count_by-le-length, sum_by-le-sum_by, list_all-from_AllPass, AllPass-from_list_all}
use Rattle.game_core.specs.Counts.{one_if}
use Rattle.game_core.specs.Fallen.{is_obstacle, is_useless, is_helpless, has_fallen}
use Rattle.game_core.specs.Game.{Game, mark_of, pair_of, successors_at, successors_of}
use Rattle.game_core.proofs.Times.{counts_agree}
use Rattle.safety_game.specs.KeepBoards.{pairs_at, enabled_at}
use Rattle.safety_game.specs.inside.KeepRounds.{fell_before, gone_in, is_cell_cut, cell_cuts_at}
use Rattle.base.proofs.Counts.{one_if_le, count_none}
use Rattle.safety_game.proofs.Counting.{any_counts}
use Rattle.safety_game.proofs.Pairs.{cell_of, All-pairs_at, All-at_input}

abbrev pub is_enabled : Game → ℕ → Bool
is_enabled g pair = nat_lt 0 (length (successors_at g pair))

-- the cell of a pair is no obstacle, and a successor passes a test
abbrev touched : Game → (ℕ → Bool) → ℕ → Bool
touched g test pair = not (is_obstacle (mark_of g (pair / g.inputs))) && nat_lt 0 (count_by test (successors_at g pair))

empty_if : (n : ℕ) → nat_lt 0 n ≡ false → (n == 0) ≡ true
empty_if zero e = refl
empty_if (suc n) e = absurd (let t = lt-ltb 0 (suc n) (omega arith) in cc)

filled_if : (n : ℕ) → nat_lt 0 n ≡ true → (n == 0) ≡ false
filled_if zero e = absurd (let t = le-ltb 0 0 (omega arith) in cc)
filled_if (suc n) e = ne_eqb (suc n) 0 (λ f. absurd (omega arith))

right_of : (a b : Bool) → a ≡ false → (a || b) ≡ true → b ≡ true
right_of true b e f = absurd (cc)
right_of false b e f = f

module _ (g : Game) (test : ℕ → Bool) where
  pub touched_enabled : (pair : ℕ) → touched g test pair ≡ true → is_enabled g pair ≡ true
  touched_enabled pair e =
      let some' = ltb-true 0 (count_by test (successors_at g pair)) (and_parts (not (is_obstacle (mark_of g (pair / g.inputs)))) (nat_lt 0 (count_by test (successors_at g pair))) e).1 in
      let most = count_by-le-length test (successors_at g pair) in
      lt-ltb 0 (length (successors_at g pair)) (omega arith)

  module _ (c : ℕ) where
    -- each enabled pair of a helpless cell is touched
    touched_if : is_obstacle (mark_of g c) ≡ false → (u : ℕ) → u < g.inputs → is_useless g test c u ≡ true → is_enabled g (pair_of g c u) ≡ true → touched g test (pair_of g c u) ≡ true
    touched_if clear u lt useless enabled =
        let any = right_of (length (successors_of g c u) == 0) (list_any test (successors_of g c u)) (filled_if (length (successors_of g c u)) enabled) useless in
        let here : not (is_obstacle (mark_of g (pair_of g c u / g.inputs))) ≡ true = ap (λ c. not (is_obstacle (mark_of g c))) (cell_of g c u lt) ∙ ap not clear in
        and_from (not (is_obstacle (mark_of g (pair_of g c u / g.inputs)))) (nat_lt 0 (count_by test (successors_of g c u))) here (sym (any_counts test (successors_of g c u)) ∙ any)

    pub helpless_counts : is_obstacle (mark_of g c) ≡ false → is_helpless g test c ≡ true → enabled_at g c ≤ count_by (touched g test) (pairs_at g c)
    helpless_counts clear e =
        let useless = AllPass-from_list_all (is_useless g test c) (range_with_len 0 g.inputs) e in
        let len = length-range_with_len 0 g.inputs in
        counts_agree.lesser (λ pair. one_if (is_enabled g pair)) (λ pair. one_if (touched g test pair)) (pairs_at g c)
        (All-pairs_at g (λ pair. one_if (is_enabled g pair) ≤ one_if (touched g test pair)) c (λ u lt.
        let at : get_or (range_with_len 0 g.inputs) u u ≡ u = (let i = get_or-range_with_len 0 g.inputs u u lt in omega arith) in
        let here : is_useless g test c u ≡ true = subst (λ u. is_useless g test c u ≡ true) at (useless u u (omega arith)) in
        one_if_le (is_enabled g (pair_of g c u)) (touched g test (pair_of g c u)) (touched_if clear u lt here)))

    -- and the other way round
    useless_if : (u : ℕ) (b : Bool) → is_enabled g (pair_of g c u) ≡ b → touched g test (pair_of g c u) ≡ b → is_useless g test c u ≡ true
    useless_if u false none' f = ap (λ b. b || list_any test (successors_of g c u)) (empty_if (length (successors_of g c u)) none')
    useless_if u true some' f =
        let any = (and_parts (not (is_obstacle (mark_of g (pair_of g c u / g.inputs)))) (nat_lt 0 (count_by test (successors_of g c u))) f).1 in
        ap (λ b. (length (successors_of g c u) == 0) || b) (any_counts test (successors_of g c u) ∙ any) ∙ or-true (length (successors_of g c u) == 0)

    pub counts_helpless : enabled_at g c ≤ count_by (touched g test) (pairs_at g c) → is_helpless g test c ≡ true
    counts_helpless le =
        let alike = counts_agree.pass_alike (touched g test) (is_enabled g) touched_enabled (pairs_at g c) le in
        let len = length-range_with_len 0 g.inputs in
        list_all-from_AllPass (is_useless g test c) (range_with_len 0 g.inputs) (λ i d lt.
        let u = get_or (range_with_len 0 g.inputs) i d in
        let lu : u < g.inputs = (let at = get_or-range_with_len 0 g.inputs i d (omega arith) in omega arith) in
        useless_if u (is_enabled g (pair_of g c u)) refl (All-at_input g (λ pair. touched g test pair ≡ is_enabled g pair) c alike u lu))

module _ (g : Game) where
  -- who fell stays so
  pub fell_stays : (d c : ℕ) → fell_before g d c ≡ true → fell_before g (suc d) c ≡ true
  fell_stays zero c e = absurd (let f : false ≡ true = e in cc)
  fell_stays (suc d) c e = ap (λ b. b || is_helpless g (has_fallen g d) c) e

  later : (e d c : ℕ) → fell_before g d c ≡ true → fell_before g (e + d) c ≡ true
  later zero d c f = subst (λ n. fell_before g n c ≡ true) {x = d} {y = zero + d} (omega arith) f
  later (suc e) d c f = subst (λ n. fell_before g n c ≡ true) {x = suc (e + d)} {y = suc e + d} (omega arith) (fell_stays (e + d) c (later e d c f))

  pub fell_later : (d e c : ℕ) → d ≤ e → fell_before g d c ≡ true → fell_before g e c ≡ true
  fell_later d e c le f = subst (λ n. fell_before g n c ≡ true) {x = (e - d) + d} {y = e} (omega arith) (later (e - d) d c f)

  -- counts grow from round to round
  pub gone_grows : (d pair : ℕ) → gone_in g d pair ≤ gone_in g (suc d) pair
  gone_grows d pair =
      sum_by-le-sum_by (λ s. one_if (fell_before g d s)) (λ s. one_if (fell_before g (suc d) s)) (successors_at g pair)
      (λ s. one_if_le (fell_before g d s) (fell_before g (suc d) s) (fell_stays d s))

  pub cut_stays : (d pair : ℕ) → is_cell_cut g d pair ≡ true → is_cell_cut g (suc d) pair ≡ true
  cut_stays d pair e =
      let clear = not (is_obstacle (mark_of g (pair / g.inputs))) in
      let parts = and_parts clear (nat_lt 0 (gone_in g d pair)) e in
      let some' = ltb-true 0 (gone_in g d pair) parts.1 in
      let more = gone_grows d pair in
      and_from clear (nat_lt 0 (gone_in g (suc d) pair)) parts.0 (lt-ltb 0 (gone_in g (suc d) pair) (omega arith))

  pub hits_grow : (d c : ℕ) → cell_cuts_at g d c ≤ cell_cuts_at g (suc d) c
  hits_grow d c = sum_by-le-sum_by (λ p. one_if (is_cell_cut g d p)) (λ p. one_if (is_cell_cut g (suc d) p)) (pairs_at g c) (λ p. one_if_le (is_cell_cut g d p) (is_cell_cut g (suc d) p) (cut_stays d p))

  pub cell_cuts_few : (d c : ℕ) → cell_cuts_at g d c ≤ enabled_at g c
  cell_cuts_few d c = sum_by-le-sum_by (λ p. one_if (is_cell_cut g d p)) (λ p. one_if (is_enabled g p)) (pairs_at g c) (λ p. one_if_le (is_cell_cut g d p) (is_enabled g p) (touched_enabled g (fell_before g d) p))

  pub gone_few : (d pair : ℕ) → gone_in g d pair ≤ length (successors_at g pair)
  gone_few d pair = count_by-le-length (fell_before g d) (successors_at g pair)

  -- a cell has fallen where all its enabled pairs are lost, and the other way round
  pub falls_by_cell_cuts : (d c : ℕ) → enabled_at g c ≤ cell_cuts_at g d c → has_fallen g d c ≡ true
  falls_by_cell_cuts zero c le = ap (λ b. is_obstacle (mark_of g c) || b) (counts_helpless g (λ s. false) c le) ∙ or-true (is_obstacle (mark_of g c))
  falls_by_cell_cuts (suc d) c le = ap (λ b. has_fallen g d c || b) (counts_helpless g (has_fallen g d) c le) ∙ or-true (has_fallen g d c)

  pub cell_cuts_by_fall : (d c : ℕ) → is_obstacle (mark_of g c) ≡ false → has_fallen g d c ≡ true → enabled_at g c ≤ cell_cuts_at g d c
  cell_cuts_by_fall zero c clear e = helpless_counts g (λ s. false) c clear (right_of (is_obstacle (mark_of g c)) (is_helpless g (λ s. false) c) clear e)
  cell_cuts_by_fall (suc d) c clear e =
      elim (or_cases (has_fallen g d c) (is_helpless g (has_fallen g d) c) e) [
        | inl before ↦ let le = cell_cuts_by_fall d c clear before in let more = hits_grow d c in omega arith
        | inr helpless ↦ helpless_counts g (has_fallen g d) c clear helpless
      ]

  -- an obstacle falls at once, and none of its pairs is lost
  pub obstacle_falls : (d c : ℕ) → is_obstacle (mark_of g c) ≡ true → has_fallen g d c ≡ true
  obstacle_falls zero c e = ap (λ b. b || is_helpless g (λ s. false) c) e
  obstacle_falls (suc d) c e = ap (λ b. b || is_helpless g (has_fallen g d) c) (obstacle_falls d c e)

  pub obstacle_unhit : (d c : ℕ) → is_obstacle (mark_of g c) ≡ true → cell_cuts_at g d c ≡ 0
  obstacle_unhit d c e =
      count_none (is_cell_cut g d) (pairs_at g c) (All-pairs_at g (λ pair. is_cell_cut g d pair ≡ false) c (λ u lt.
      ap (λ b. not b && nat_lt 0 (gone_in g d (pair_of g c u))) (ap (λ c. is_obstacle (mark_of g c)) (cell_of g c u lt) ∙ e)))
