-- The first and the last cell of a box are its corners.
use Rattle.std.proofs.Common.{inl, inr, ◌≡◌, ℕ, ◌+◌, ◌%◌, ◌<◌, ◌≤◌, List, [], ◌∷◌, length, get_or, arith, ◌∙◌}
use Rattle.std.specs.List.Sorted.{IsStrictlyIncreasing}
use Rattle.std.proofs.lemmas.Bool.{cases_lt}
use Rattle.std.proofs.lemmas.List.{get_or_default}
use Rattle.std.proofs.lemmas.List.Elements.{Contains-get_or}
use Rattle.std.proofs.lemmas.List.Kept.{AllPairs-from_increasing}
use Rattle.grid_quantiser.specs.declared.axis.Axis.{Axis}
use Rattle.grid_quantiser.specs.Axes.{AreAxes, cells_of}
use Rattle.grid_quantiser.specs.CellBoxes.{IsCellBox, cells_between}
use Rattle.grid_quantiser.proofs.BoxCells.{corners_below}
use Rattle.grid_quantiser.proofs.BetweenCells.{IsBetween, between_from_contains, between_by_coordinate, contains_from_between, rising_between}
use Rattle.grid_quantiser.proofs.OverlapCells.{first_between}

last_between : (axes : List Axis) (f l : ℕ) → IsCellBox axes f l → IsBetween axes f l l
last_between [] f l box = tt
last_between (a ∷ axes) f l box = (box.0, omega arith, last_between axes (f % cells_of axes) (l % cells_of axes) box.2)

-- of rising numbers each is at most a later one
rises : (xs : List ℕ) (i j : ℕ) → IsStrictlyIncreasing xs → i ≤ j → j < length xs → get_or xs i 0 ≤ get_or xs j 0
rises xs i j rising le lt =
    elim (cases_lt i j) [
      | inl before ↦ let less = AllPairs-from_increasing xs rising i j 0 before lt in omega arith
      | inr same ↦ let e : i ≡ j = omega arith in let at : get_or xs i 0 ≡ get_or xs j 0 = (λ k. get_or xs (e k) 0) in omega arith
    ]

module _ (axes : List Axis) (f l : ℕ) (grid : AreAxes axes) (box : IsCellBox axes f l) where
  abbrev cells : List ℕ
  cells = cells_between axes f l

  -- each cell of the box lies there by its number
  by_number : (i : ℕ) → i < length cells → (f ≤ get_or cells i 0) × (get_or cells i 0 ≤ l)
  by_number i lt = between_by_coordinate axes f l (get_or cells i 0) grid.some_state (between_from_contains axes f l (get_or cells i 0) grid.each box (Contains-get_or cells i 0 lt))

  rising : IsStrictlyIncreasing cells
  rising = rising_between axes f l grid.each box

  -- there is one at least
  pub some_cell : 1 ≤ length cells
  some_cell = let has = contains_from_between axes f l f grid.each (corners_below axes f l grid.each grid.some_state box).0 (first_between axes f l box) in omega (arith, has.1)

  pub first_corner : get_or cells 0 0 ≡ f
  first_corner =
      let has = contains_from_between axes f l f grid.each (corners_below axes f l grid.each grid.some_state box).0 (first_between axes f l box) in
      let there : get_or cells has.0 0 ≡ f = get_or_default cells has.0 0 f has.1 ∙ has.2 in
      let low = (by_number 0 (let within = has.1 in omega arith)).0 in
      let up = rises cells 0 has.0 rising (omega arith) has.1 in
      omega arith

  pub last_corner : (i : ℕ) → i + 1 ≡ length cells → get_or cells i 0 ≡ l
  last_corner i last =
      let has = contains_from_between axes f l l grid.each (corners_below axes f l grid.each grid.some_state box).1 (last_between axes f l box) in
      let there : get_or cells has.0 0 ≡ l = get_or_default cells has.0 0 l has.1 ∙ has.2 in
      let within = has.1 in
      let high = (by_number i (omega arith)).1 in
      let low = rises cells has.0 i rising (omega arith) (omega arith) in
      omega arith
