-- The pairs that lead to a cell are its sources in the game.
use Rattle.std.proofs.Common.{◌≡◌, ℕ, zero, suc, ◌+◌, ◌<◌, Bool, true, false, cond, List, [], ◌∷◌, length, get_or, Option, None, Contains, refl, sym, subst, arith, inl, inr}
use Rattle.std.specs.List.{filter, range_with_len}
use Rattle.std.specs.List.Sorted.{IsStrictlyIncreasing}
use Rattle.std.proofs.lemmas.Bool.{cases_lt}
use Rattle.std.proofs.lemmas.List.Elements.{Contains-append_left, Contains-append_right, Contains-append_cases}
use Rattle.std.proofs.lemmas.List.FromFn.{length-range_with_len, get_or-range_with_len}
use Rattle.std.proofs.lemmas.List.Kept.{IsStrictlyIncreasing-filter}
use Rattle.grid_quantiser.specs.declared.axis.Axis.{Axis}
use Rattle.grid_quantiser.specs.declared.boxes.CellBox.{CellBox}
use Rattle.game_core.specs.declared.game.Mark.{Mark}
use Rattle.game_core.specs.Game.{AreSources, pairs_of}
use Rattle.successor_box.specs.SuccessorBoxes.{cells_in}
use Rattle.plant_game.specs.BoxGame.{box_game}
use Rattle.source_lists.specs.SourceLists.{leads_to, sources_among}
use Rattle.base.proofs.Ranges.{filter-range_more}
use Rattle.source_lists.proofs.LeadingPairs.{has_any}
use Rattle.plant_game.proofs.BoxGames.{successors_are}

-- a filter over a range keeps the numbers that pass
kept_passes : (p : ℕ → Bool) (n x : ℕ) → Contains (filter p (range_with_len 0 n)) x → (x < n) × (p x ≡ true)
kept_passes p zero x has = absurd (omega (arith, has.1))
kept_passes p (suc n) x has =
    elim (Contains-append_cases (filter p (range_with_len 0 n)) (cond (p n) (n ∷ []) []) x (subst (λ (xs : List ℕ). Contains xs x) (filter-range_more p n) (subst (λ (m : ℕ). Contains (filter p (range_with_len 0 m)) x) (let e : suc n ≡ n + 1 = omega arith in e) has))) [
      | inl before ↦ let h = kept_passes p n x before in (omega (arith, h.0), h.1)
      | inr here ↦ last (p n) refl here
    ]
  where
    last : (b : Bool) → p n ≡ b → Contains (cond b (n ∷ []) []) x → (x < suc n) × (p x ≡ true)
    last true e here = let same : n ≡ x = only here.0 here.1 here.2 in (omega (arith, same), subst (λ (y : ℕ). p y ≡ true) same e)
      where
        only : (k : ℕ) → k < 1 → get_or (n ∷ []) k x ≡ x → n ≡ x
        only zero lt is = is
        only (suc k) lt is = absurd (omega (arith, lt))
    last false e here = absurd (omega (arith, here.1))

passes_kept : (p : ℕ → Bool) (n x : ℕ) → x < n → p x ≡ true → Contains (filter p (range_with_len 0 n)) x
passes_kept p zero x lt e = absurd (omega (arith, lt))
passes_kept p (suc n) x lt e =
    subst (λ (m : ℕ). Contains (filter p (range_with_len 0 m)) x) (let r : n + 1 ≡ suc n = omega arith in r) (subst (λ (xs : List ℕ). Contains xs x) (sym (filter-range_more p n)) (elim (cases_lt x n) [
      | inl before ↦ Contains-append_left (filter p (range_with_len 0 n)) (cond (p n) (n ∷ []) []) x (passes_kept p n x before e)
      | inr past ↦
          let same : x ≡ n = omega (arith, lt, past) in
          Contains-append_right (filter p (range_with_len 0 n)) (cond (p n) (n ∷ []) []) x
          (subst (λ (b : Bool). Contains (cond b (n ∷ []) []) x) (sym (subst (λ (y : ℕ). p y ≡ true) same e)) (0, omega arith, sym same))
    ]))

rising_range : (n : ℕ) → IsStrictlyIncreasing (range_with_len 0 n)
rising_range n = λ k lt.
    let long : k + 1 < n = omega (arith, lt, length-range_with_len 0 n) in
    let short : k < n = omega (arith, long) in
    omega (arith, get_or-range_with_len 0 n k 0 short, get_or-range_with_len 0 n (k + 1) 0 long)

-- the kept pairs are the sources of a cell
pub sources_are : (axes : List Axis) (inputs : ℕ) (marks : List Mark) (boxes : List (Option CellBox)) (c : ℕ) → length boxes ≡ pairs_of (box_game axes inputs marks boxes) → AreSources (box_game axes inputs marks boxes) c (sources_among axes boxes (length boxes) c)
sources_are axes inputs marks boxes c one_each = record {
  rising = IsStrictlyIncreasing-filter (leads_to axes boxes c) (range_with_len 0 (length boxes)) (rising_range (length boxes));
  exactly = λ pair. (
    (λ has. let h = kept_passes (leads_to axes boxes c) (length boxes) pair has in (omega (arith, h.0, one_each), subst (λ (cells : List ℕ). Contains cells c) (sym (successors_are axes inputs marks boxes pair)) ((has_any c (cells_in axes (get_or boxes pair None))).0 h.1))),
    (λ h. passes_kept (leads_to axes boxes c) (length boxes) pair (omega (arith, h.0, one_each)) ((has_any c (cells_in axes (get_or boxes pair None))).1 (subst (λ (cells : List ℕ). Contains cells c) (successors_are axes inputs marks boxes pair) h.1))),
  );
}
