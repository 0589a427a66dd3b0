-- A box of 13 positions and 15 speeds meets at most nine cells, ten positions and ten speeds wide.
use Rattle.std.proofs.Common.{◌≡◌, ℕ, ◌+◌, ◌-◌, ◌*◌, ◌/◌, ◌≤◌, List, [], ◌∷◌, length, get_or, arith}
use Rattle.std.specs.Prelude.{ℤ, pos, negsuc, nat_abs, ◌+ℤ◌, ◌-ℤ◌, ◌≤ℤ◌}
use Rattle.std.proofs.lemmas.Int.{ints}
use Rattle.std.proofs.lemmas.List.Kept.{AllPairs-from_increasing}
use Rattle.std.proofs.lemmas.List.Elements.{All-contains_itself}
use Rattle.grid_quantiser.specs.declared.axis.Axis.{Axis}
use Rattle.grid_quantiser.specs.Cells.{IsPointOf, index_of}
use Rattle.grid_quantiser.specs.CellBoxes.{IsBoxInDomain, IsInBox, Touches, AreCellsMeeting}
use Rattle.demo_plants.proofs.NineCells.{IsNear, at_most_nine}

-- the axes of positions and speeds
abbrev pub position_axis : ℕ → Axis
position_axis m = record { lo = pos 0; width = pos 10; count = m }

abbrev pub speed_axis : Axis
speed_axis = record { lo = negsuc 99; width = pos 10; count = 20 }

abbrev pub demo_axes : ℕ → List Axis
demo_axes m = position_axis m ∷ speed_axis ∷ []

-- at most two tens lie between
tens : (a b : ℕ) → a ≤ b → b ≤ a + 14 → (d : ℕ) × (d ≤ 2) × (b / 10 ≡ a / 10 + d)
tens a b low high = (b / 10 - a / 10, omega arith, omega arith)

position_near : (x z : ℤ) → pos 0 ≤ℤ (x -ℤ pos 6) → (x -ℤ pos 6) ≤ℤ z → z ≤ℤ (x +ℤ pos 6) → (d : ℕ) × (d ≤ 2) × (nat_abs (z -ℤ pos 0) / 10 ≡ nat_abs ((x -ℤ pos 6) -ℤ pos 0) / 10 + d)
position_near x z some low high =
    tens (nat_abs ((x -ℤ pos 6) -ℤ pos 0)) (nat_abs (z -ℤ pos 0)) (omega (arith, ints, some, low, high)) (omega (arith, ints, some, low, high))

speed_near : (y z : ℤ) → negsuc 99 ≤ℤ (y -ℤ pos 7) → (y -ℤ pos 7) ≤ℤ z → z ≤ℤ (y +ℤ pos 7) → (d : ℕ) × (d ≤ 2) × (nat_abs (z -ℤ negsuc 99) / 10 ≡ nat_abs ((y -ℤ pos 7) -ℤ negsuc 99) / 10 + d)
speed_near y z some low high =
    tens (nat_abs ((y -ℤ pos 7) -ℤ negsuc 99)) (nat_abs (z -ℤ negsuc 99)) (omega (arith, ints, some, low, high)) (omega (arith, ints, some, low, high))

module _ (m : ℕ) (x y : ℤ) where
  abbrev low : List ℤ
  low = (x -ℤ pos 6) ∷ (y -ℤ pos 7) ∷ []

  abbrev high : List ℤ
  high = (x +ℤ pos 6) ∷ (y +ℤ pos 7) ∷ []

  corner : ℕ
  corner = 20 * index_of (position_axis m) (x -ℤ pos 6) + index_of speed_axis (y -ℤ pos 7)

  near : IsBoxInDomain (demo_axes m) low high → (c : ℕ) (zs : List ℤ) → IsPointOf (demo_axes m) c zs → IsInBox (demo_axes m) low high zs → IsNear corner 0 c
  unfolding corner
  near domain c [] point box = absurd point.0
  near domain c (z ∷ []) point box = absurd point.0.2
  near domain c (z ∷ w ∷ zs) point box =
      let p = position_near x z domain.0.0 box.0.0 box.1.0 in
      let s = speed_near y w domain.0.2.0 box.0.1.0 box.1.1.0 in
      record {
        positions = p.0;
        speeds = s.0;
        few_positions = p.1;
        few_speeds = s.1;
        is = omega (arith, point.1, p.2, s.2);
        after = omega arith;
      }

  pub few_cells : IsBoxInDomain (demo_axes m) low high → (cells : List ℕ) → AreCellsMeeting (demo_axes m) low high cells → length cells ≤ 9
  few_cells domain cells meeting =
      let nine =
      at_most_nine corner 0 cells (omega arith) (AllPairs-from_increasing cells meeting.rising)
      (λ k lt. let c : ℕ = get_or cells k 0 in let touch : Touches (demo_axes m) c low high = (meeting.exactly c).0 (All-contains_itself cells k 0 lt) in near domain c touch.0 touch.1 touch.2) in
      omega (arith, nine)
