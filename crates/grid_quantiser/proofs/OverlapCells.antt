-- The cells with an overlap in a box of states: along each axis a row of indices.
use Rattle.std.proofs.Common.{◌≡◌, ℕ, suc, ◌+◌, ◌*◌, ◌/◌, ◌%◌, ◌<◌, ◌≤◌, ◌↔◌, arith, refl, ◌∙◌, List, [], ◌∷◌, length, get_or, ℤ, pos, Option, None, Some}
use Rattle.std.specs.List.{All, Contains}
use Rattle.std.proofs.Math.Nat.{mul_comm}
use Rattle.std.proofs.lemmas.Bool.{false≢true}
use Rattle.std.proofs.lemmas.List.{get_or_default}
use Rattle.std.proofs.lemmas.List.Elements.{All-tail}
use Rattle.std.proofs.lemmas.Nat.{div-mul-add, mod-mul-add, div_below, mod_below, mul-add-lt}
use Rattle.mixed_radix.specs.Radix.{number, digits}
use Rattle.mixed_radix.proofs.Numbers.{length-digits, number-digits}
use Rattle.grid_quantiser.specs.declared.axis.Axis.{Axis}
use Rattle.grid_quantiser.specs.declared.axis.Overlap.{Overlap}
use Rattle.grid_quantiser.specs.declared.axis.Overlap.TheVariants.{Partial, Whole}
use Rattle.grid_quantiser.specs.declared.boxes.CellBox.{CellBox}
use Rattle.grid_quantiser.specs.Axes.{IsAxis, no_axis, counts_of, cells_of}
use Rattle.grid_quantiser.specs.Cells.{low_of, high_of}
use Rattle.grid_quantiser.specs.CellBoxes.{Touches, LiesInside, IsCellBox, cells_between, IsBoxWith}
use Rattle.grid_quantiser.specs.inside.Spots.{coordinate_of, numbers_of}
use Rattle.grid_quantiser.specs.inside.Overlaps.{first_point, last_point, HasOverlapIn, AreIndicesIn, HasOverlap, IsCellWith}
use Rattle.grid_quantiser.proofs.Suffixes.{some_cells}
use Rattle.grid_quantiser.proofs.Domain.{cell_below}
use Rattle.grid_quantiser.proofs.Counts.{length-counts_of, each_count, each_number}
use Rattle.grid_quantiser.proofs.AtMost.{at_most_each, IsAtMost-trans}
use Rattle.grid_quantiser.proofs.CellPoints.{low_at_most_high, ends_from_touches, touches_from_ends, ends_from_inside, inside_from_ends}
use Rattle.grid_quantiser.proofs.BoxCells.{between_below}
use Rattle.grid_quantiser.proofs.BetweenCells.{IsBetween, between_from_contains, contains_from_between}

-- The corners of the cells with such an overlap.
pub record AreCornersOf (overlap : Overlap) (axes : List Axis) (lo hi : List ℤ) (f l : ℕ) : Type 0 where
  pub first_below : f < cells_of axes
  pub last_below : l < cells_of axes
  pub ordered : IsCellBox axes f l
  pub exactly : (c : ℕ) → c < cells_of axes → IsBetween axes f l c ↔ HasOverlap overlap axes lo hi c

-- one axis more
more_corners : (overlap : Overlap) (a : Axis) (axes : List Axis) (x y : ℤ) (lo hi : List ℤ) (p q f l : ℕ) → All IsAxis axes → AreIndicesIn overlap a x y p q → AreCornersOf overlap axes lo hi f l →
    AreCornersOf overlap (a ∷ axes) (x ∷ lo) (y ∷ hi) (p * cells_of axes + f) (q * cells_of axes + l)
more_corners overlap a axes x y lo hi p q f l each indices corners =
    let n : ℕ = cells_of axes in
    let turned : n * a.count ≡ a.count * n = mul_comm n a.count in
    let first : (p * n + f) / n ≡ p = div-mul-add p n f corners.first_below in
    let last : (q * n + l) / n ≡ q = div-mul-add q n l corners.last_below in
    let first_rest : (p * n + f) % n ≡ f = mod-mul-add p n f corners.first_below in
    let last_rest : (q * n + l) % n ≡ l = mod-mul-add q n l corners.last_below in
    let first_index : p < a.count = omega (arith, indices.ordered, indices.below) in
    record {
      first_below = omega (arith, mul-add-lt p n f a.count first_index corners.first_below, turned);
      last_below = omega (arith, mul-add-lt q n l a.count indices.below corners.last_below, turned);
      ordered = rw (first, last, first_rest, last_rest) (indices.ordered, indices.below, corners.ordered);
      exactly = λ c below.
          let here = indices.exactly (c / n) (div_below c n a.count (some_cells axes each) below) in
          let there = corners.exactly (c % n) (mod_below c n (some_cells axes each)) in
          rw (first, last, first_rest, last_rest) (
            λ (between : (p ≤ c / n) × (c / n ≤ q) × IsBetween axes f l (c % n)).
                let first = here.0 (between.0, between.1) in
                let later = there.0 between.2 in ((first.0, later.0), (first.1, later.1), (first.2, later.2)),
            λ (has : HasOverlap overlap (a ∷ axes) (x ∷ lo) (y ∷ hi) c).
                let indices = here.1 (has.0.0, has.1.0, has.2.0) in (indices.0, indices.1, there.1 (has.0.1, has.1.1, has.2.1)),
          );
    }

-- the corners whose indices have it on each axis
pub corners_of_indices : (overlap : Overlap) (axes : List Axis) (lo hi : List ℤ) (first last : List ℕ) → All IsAxis axes → length axes ≤ length lo → length axes ≤ length hi → length axes ≤ length first → length axes ≤ length last →
    ((k : ℕ) → k < length axes → AreIndicesIn overlap (get_or axes k no_axis) (get_or lo k (pos 0)) (get_or hi k (pos 0)) (get_or first k 0) (get_or last k 0)) →
    AreCornersOf overlap axes lo hi (number (counts_of axes) first) (number (counts_of axes) last)
corners_of_indices overlap [] lo hi first last each long_lo long_hi long_first long_last indices = record { first_below = omega arith; last_below = omega arith; ordered = tt; exactly = λ c below. (λ _. (tt, tt, tt), λ _. tt) }
corners_of_indices overlap (a ∷ axes) [] hi first last each long_lo long_hi long_first long_last indices = absurd (omega (arith, long_lo))
corners_of_indices overlap (a ∷ axes) (x ∷ lo) [] first last each long_lo long_hi long_first long_last indices = absurd (omega (arith, long_hi))
corners_of_indices overlap (a ∷ axes) (x ∷ lo) (y ∷ hi) [] last each long_lo long_hi long_first long_last indices = absurd (omega (arith, long_first))
corners_of_indices overlap (a ∷ axes) (x ∷ lo) (y ∷ hi) (p ∷ first) [] each long_lo long_hi long_first long_last indices = absurd (omega (arith, long_last))
corners_of_indices overlap (a ∷ axes) (x ∷ lo) (y ∷ hi) (p ∷ first) (q ∷ last) each long_lo long_hi long_first long_last indices =
    more_corners overlap a axes x y lo hi p q (number (counts_of axes) first) (number (counts_of axes) last) (All-tail IsAxis a axes each) (indices 0 (omega arith))
    (corners_of_indices overlap axes lo hi first last (All-tail IsAxis a axes each) (omega (arith, long_lo)) (omega (arith, long_hi)) (omega (arith, long_first)) (omega (arith, long_last)) (λ k within. indices (suc k) (omega (arith, within))))

-- a cell with an overlap in each state has an index with one along an axis
overlap_along : (overlap : Overlap) (axes : List Axis) (lo hi : List ℤ) (c i : ℕ) → IsCellWith overlap axes lo hi c → i < length axes →
    (p : ℕ) × (p < (get_or axes i no_axis).count) × HasOverlapIn overlap (get_or axes i no_axis) (get_or lo i (pos 0)) (get_or hi i (pos 0)) p
overlap_along overlap axes lo hi c i is within =
    let ps : List ℕ = digits (counts_of axes) c in
    let long : length axes ≤ length ps = omega (arith, length-digits (counts_of axes) c, length-counts_of axes) in (
      get_or ps i 0,
      omega (arith, (number-digits (counts_of axes) c is.0).are.below i (omega (arith, within, length-counts_of axes)), each_count axes i),
      (
        at_most_each axes lo hi i is.1.0 within,
        rw (each_number (coordinate_of (first_point overlap)) axes ps i (pos 0) long within) at (at_most_each axes lo (numbers_of (first_point overlap) axes c) i is.1.1 within),
        rw (each_number (coordinate_of (last_point overlap)) axes ps i (pos 0) long within) at (at_most_each axes (numbers_of (last_point overlap) axes c) hi i is.1.2 within),
      ),
    )

-- where an axis has no index with an overlap, no cell has one in each state
pub no_box : (overlap : Overlap) (axes : List Axis) (lo hi : List ℤ) (i : ℕ) → i < length axes →
    (((p : ℕ) × (p < (get_or axes i no_axis).count) × HasOverlapIn overlap (get_or axes i no_axis) (get_or lo i (pos 0)) (get_or hi i (pos 0)) p) → ⊥) →
    IsBoxWith axes (IsCellWith overlap axes lo hi) None
no_box overlap axes lo hi i within none = record {
  some = (λ some. absurd (false≢true some), λ has. absurd (none (overlap_along overlap axes lo hi has.0 i has.1 within)));
  corners = tt;
  exactly = tt;
}

-- ---- the box of the corners

-- the first corner is between the corners
pub first_between : (axes : List Axis) (f l : ℕ) → IsCellBox axes f l → IsBetween axes f l f
first_between [] f l box = tt
first_between (a ∷ axes) f l box = (omega arith, box.0, first_between axes (f % cells_of axes) (l % cells_of axes) box.2)

pub box_of_corners : (overlap : Overlap) (axes : List Axis) (lo hi : List ℤ) (b : CellBox) → All IsAxis axes → AreCornersOf overlap axes lo hi b.first b.last →
    IsBoxWith axes (IsCellWith overlap axes lo hi) (Some b)
box_of_corners overlap axes lo hi b each corners =
    let f : ℕ = b.first in
    let l : ℕ = b.last in
    record {
      some = (λ some. (f, (corners.first_below, (corners.exactly f corners.first_below).0 (first_between axes f l corners.ordered))), λ has. refl);
      corners = corners.ordered;
      exactly = λ c. (
        λ (has : Contains (cells_between axes f l) c).
            let inner : get_or (cells_between axes f l) has.0 0 < cells_of axes = between_below axes f l has.0 each corners.ordered has.1 in
            let is : get_or (cells_between axes f l) has.0 0 ≡ c = get_or_default (cells_between axes f l) has.0 0 c has.1 ∙ has.2 in
            let below : c < cells_of axes = omega (arith, inner, is) in
            (below, (corners.exactly c below).0 (between_from_contains axes f l c each corners.ordered has)),
        λ (is : IsCellWith overlap axes lo hi c). contains_from_between axes f l c each is.0 ((corners.exactly c is.0).1 is.1),
      );
    }

-- ---- cells that touch a box, and cells that lie in it

module _ (axes : List Axis) (lo hi : List ℤ) (each : All IsAxis axes) (c : ℕ) where
  pub touches_is : IsCellWith Partial axes lo hi c ↔ Touches axes c lo hi
  touches_is = (
    λ (is : IsCellWith Partial axes lo hi c). touches_from_ends axes c lo hi each is.0 is.1.0 is.1.1 is.1.2,
    λ (touch : Touches axes c lo hi).
        let ends = ends_from_touches axes c lo hi each touch in
        (omega (arith, cell_below axes touch.0 each touch.1.0, touch.1.1), (IsAtMost-trans axes lo touch.0 hi touch.2.0 touch.2.1, ends.0, ends.1)),
  )

  pub inside_is : IsCellWith Whole axes lo hi c ↔ ((c < cells_of axes) × LiesInside axes c lo hi)
  inside_is = (
    λ (is : IsCellWith Whole axes lo hi c). (is.0, inside_from_ends axes c lo hi each is.1.1 is.1.2),
    λ (is : (c < cells_of axes) × LiesInside axes c lo hi).
        let ends = ends_from_inside axes c lo hi each is.0 is.1 in
        let ordered = IsAtMost-trans axes (low_of axes c) (high_of axes c) hi (low_at_most_high axes c each) ends.1 in
        (is.0, (IsAtMost-trans axes lo (low_of axes c) hi ends.0 ordered, ends.0, ends.1)),
  )

-- a box of the cells with a property is that of the cells with a like property
pub same_box : (axes : List Axis) (P Q : ℕ → Type 0) (found : Option CellBox) → ((c : ℕ) → P c ↔ Q c) → IsBoxWith axes P found → IsBoxWith axes Q found
same_box axes P Q None same box = record {
  some = (λ some. let it = box.some.0 some in (it.0, (same it.0).0 it.1), λ it. box.some.1 (it.0, (same it.0).1 it.1));
  corners = tt;
  exactly = tt;
}
same_box axes P Q (Some b) same box = record {
  some = (λ some. let it = box.some.0 some in (it.0, (same it.0).0 it.1), λ it. refl);
  corners = box.corners;
  exactly = λ c. (λ has. (same c).0 ((box.exactly c).0 has), λ it. (box.exactly c).1 ((same c).1 it));
}
