-- The pairs of a cell.
use Rattle.std.proofs.Common.{inl, inr, ◌≡◌, ◌≢◌, ℕ, ◌+◌, ◌*◌, ◌/◌, ◌%◌, ◌<◌, ◌≤◌, nat_lt, length, All, arith, sym, ◌∙◌, ap, subst, mul_comm}
use Rattle.std.specs.List.{range_with_len}
use Rattle.std.proofs.lemmas.Bool.{cases_lt}
use Rattle.std.proofs.lemmas.List.FromFn.{length-range_with_len, get_or-range_with_len}
use Rattle.std.proofs.lemmas.List.Sums.{count_by-le-length}
use Rattle.std.proofs.lemmas.Nat.{div-mul-add, div-add-mod', mod_below, mul-add-lt}
use Rattle.game_core.specs.Counts.{times}
use Rattle.game_core.specs.Game.{Game, pair_of, pairs_of, successors_at}
use Rattle.game_core.proofs.Times.{counts_agree}
use Rattle.safety_game.specs.KeepBoards.{pairs_at, enabled_at}

module _ (g : Game) where
  pub cell_of : (c u : ℕ) → u < g.inputs → pair_of g c u / g.inputs ≡ c
  cell_of c u lt = div-mul-add c g.inputs u lt

  pub pair_below : (c u : ℕ) → c < g.cells → u < g.inputs → pair_of g c u < pairs_of g
  pair_below c u lt lu = let l = mul-add-lt c g.inputs u g.cells lt lu in subst (λ n. pair_of g c u < n) (mul_comm g.inputs g.cells) l

  -- what holds of the pair of each input
  pub All-pairs_at : (P : ℕ → Type 0) (c : ℕ) → ((u : ℕ) → u < g.inputs → P (pair_of g c u)) → All P (pairs_at g c)
  All-pairs_at P c h i d lt =
      let len = length-range_with_len (c * g.inputs) g.inputs in
      let li : i < g.inputs = omega arith in
      subst P (sym (get_or-range_with_len (c * g.inputs) g.inputs i d li)) (h i li)

  pub All-at_input : (P : ℕ → Type 0) (c : ℕ) → All P (pairs_at g c) → (u : ℕ) → u < g.inputs → P (pair_of g c u)
  All-at_input P c h u lt =
      let len = length-range_with_len (c * g.inputs) g.inputs in
      subst P (get_or-range_with_len (c * g.inputs) g.inputs u 0 lt) (h u 0 (omega arith))

  pub pairs_below : (c : ℕ) → c < g.cells → All (λ pair. pair < pairs_of g) (pairs_at g c)
  pairs_below c lt = All-pairs_at (λ pair. pair < pairs_of g) c (λ u lu. pair_below c u lt lu)

  pub few_enabled : (c : ℕ) → enabled_at g c ≤ g.inputs
  few_enabled c =
      let le = count_by-le-length (λ pair. nat_lt 0 (length (successors_at g pair))) (pairs_at g c) in
      let len = length-range_with_len (c * g.inputs) g.inputs in
      omega arith

  -- a pair is among those of its cell, once, and of no other
  module _ (some' : 0 < g.inputs) where
    in_parts : (pair a r : ℕ) → a + r ≡ pair → r < g.inputs → times pair (range_with_len a g.inputs) ≡ 1
    in_parts pair a r e lt = counts_agree.in_range pair a g.inputs (omega arith) (omega arith)

    pub at_home : (pair : ℕ) → times pair (pairs_at g (pair / g.inputs)) ≡ 1
    at_home pair = in_parts pair (pair / g.inputs * g.inputs) (pair % g.inputs) (div-add-mod' pair g.inputs) (mod_below pair g.inputs some')

    pub away : (pair c : ℕ) → pair / g.inputs ≢ c → times pair (pairs_at g c) ≡ 0
    away pair c ne =
        elim (cases_lt 0 (times pair (pairs_at g c))) [
          | inr none' ↦ omega arith
          | inl has' ↦
              let has = counts_agree.found pair (pairs_at g c) has' in
              let len = length-range_with_len (c * g.inputs) g.inputs in
              let lt : has.0 < g.inputs = (let l = has.1 in omega arith) in
              let same : pair_of g c has.0 ≡ pair = sym (get_or-range_with_len (c * g.inputs) g.inputs has.0 pair lt) ∙ has.2 in
              absurd (ne (ap (λ p. p / g.inputs) (sym same) ∙ cell_of c has.0 lt))
        ]
