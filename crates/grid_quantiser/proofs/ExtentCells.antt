-- The box of cells that meet a box of states grows by its extents, axis by axis.
use Rattle.std.proofs.Common.{◌≡◌, ℕ, zero, suc, ◌+◌, ◌*◌, ◌<◌, ◌≤◌, arith, refl, sym, ap, ap₂, subst, subst₂, ◌∙◌, List, [], ◌∷◌, length, take, slice_index_or, ℤ, pos, Option, None, Some}
use Rattle.std.specs.Prelude.{IfSome}
use Rattle.std.specs.List.{All}
use Rattle.std.proofs.Math.Nat.{mul_assoc, add-mul, mul-le-mul_left}
use Rattle.std.proofs.lemmas.Bool.{false≢true}
use Rattle.std.proofs.lemmas.List.Elements.{All-tail, All-take}
use Rattle.grid_quantiser.specs.declared.axis.Axis.{Axis}
use Rattle.grid_quantiser.specs.declared.boxes.CellBox.{CellBox}
use Rattle.grid_quantiser.specs.declared.extents.Extent.{Extent}
use Rattle.grid_quantiser.specs.Axes.{IsAxis, cells_of, no_axis}
use Rattle.grid_quantiser.specs.Cells.{IsInDomain, index_of, cell_of}
use Rattle.grid_quantiser.specs.CellBoxes.{IsAtMost, IsBoxInDomain, AreCornersMeeting}
use Rattle.grid_quantiser.specs.Extents.{IsOnAxis, IsExtentOf, AreExtentsOf}
use Rattle.grid_quantiser.specs.ExtentBoxes.{one_cell, with_extent, IsBoxMeeting}
use Rattle.grid_quantiser.proofs.Counts.{domain_each}
use Rattle.grid_quantiser.proofs.Suffixes.{some_cells}
use Rattle.grid_quantiser.proofs.BoxCells.{box_ordered}
use Rattle.grid_quantiser.proofs.MeetingCells.{meeting_corners}

-- ---- the first axes, and one more

at_most_take : (k : ℕ) (axes : List Axis) (xs ys : List ℤ) → IsAtMost axes xs ys → IsAtMost (take k axes) xs ys
at_most_take zero axes xs ys h = tt
at_most_take (suc k) [] xs ys h = tt
at_most_take (suc k) (a ∷ axes) [] ys h = absurd h
at_most_take (suc k) (a ∷ axes) (x ∷ xs) [] h = absurd h
at_most_take (suc k) (a ∷ axes) (x ∷ xs) (y ∷ ys) h = (h.0, at_most_take k axes xs ys h.1)

-- both lists have a number for each axis
at_most_long : (axes : List Axis) (xs ys : List ℤ) → IsAtMost axes xs ys → (length axes ≤ length xs) × (length axes ≤ length ys)
at_most_long [] xs ys h = (omega arith, omega arith)
at_most_long (a ∷ axes) [] ys h = absurd h
at_most_long (a ∷ axes) (x ∷ xs) [] h = absurd h
at_most_long (a ∷ axes) (x ∷ xs) (y ∷ ys) h = let later = at_most_long axes xs ys h.1 in (omega (arith, later.0), omega (arith, later.1))

-- the first axes alone have no more cells
cells_of-take : (k : ℕ) (axes : List Axis) → All IsAxis axes → cells_of (take k axes) ≤ cells_of axes
cells_of-take zero axes each = some_cells axes each
cells_of-take (suc k) [] each = omega arith
cells_of-take (suc k) (a ∷ axes) each =
    omega (arith, mul-le-mul_left a.count (cells_of-take k axes (All-tail IsAxis a axes each)))

cells_more : (axes : List Axis) (k : ℕ) → k < length axes → cells_of (take (suc k) axes) ≡ cells_of (take k axes) * (slice_index_or axes k no_axis).count
cells_more [] k lt = absurd (omega (arith, lt))
cells_more (a ∷ axes) zero lt = omega arith
cells_more (a ∷ axes) (suc k) lt =
    ap (λ (n : ℕ). a.count * n) (cells_more axes k (omega (arith, lt))) ∙ sym (mul_assoc a.count (cells_of (take k axes)) (slice_index_or axes k no_axis).count)

-- a state in the domain of one axis more
domain_less : (axes : List Axis) (xs : List ℤ) (k : ℕ) → k < length axes → IsInDomain (take (suc k) axes) xs →
    IsInDomain (take k axes) xs × IsOnAxis (slice_index_or axes k no_axis) (slice_index_or xs k (pos 0))
domain_less [] xs k lt inside = absurd (omega (arith, lt))
domain_less (a ∷ axes) [] k lt inside = absurd inside
domain_less (a ∷ axes) (x ∷ xs) zero lt inside = (tt, (inside.0, inside.1))
domain_less (a ∷ axes) (x ∷ xs) (suc k) lt inside =
    let later = domain_less axes xs k (omega (arith, lt)) inside.2 in
    ((inside.0, inside.1, later.0), later.1)

-- a state in the domain of the first axes, and on the next one
domain_more : (axes : List Axis) (xs : List ℤ) (k : ℕ) → k < length axes → k < length xs → IsInDomain (take k axes) xs → IsOnAxis (slice_index_or axes k no_axis) (slice_index_or xs k (pos 0)) → IsInDomain (take (suc k) axes) xs
domain_more [] xs k lt long inside on = absurd (omega (arith, lt))
domain_more (a ∷ axes) [] k lt long inside on = absurd (omega (arith, long))
domain_more (a ∷ axes) (x ∷ xs) zero lt long inside on = (on.0, on.1, tt)
domain_more (a ∷ axes) (x ∷ xs) (suc k) lt long inside on =
    (inside.0, inside.1, domain_more axes xs k (omega (arith, lt)) (omega (arith, long)) inside.2 on)

-- its cell there
cell_more : (axes : List Axis) (xs : List ℤ) (k : ℕ) → k < length axes → k < length xs →
    cell_of (take (suc k) axes) xs ≡ cell_of (take k axes) xs * (slice_index_or axes k no_axis).count + index_of (slice_index_or axes k no_axis) (slice_index_or xs k (pos 0))
cell_more [] xs k lt long = absurd (omega (arith, lt))
cell_more (a ∷ axes) [] k lt long = absurd (omega (arith, long))
cell_more (a ∷ axes) (x ∷ xs) zero lt long = omega arith
cell_more (a ∷ axes) (x ∷ xs) (suc k) lt long =
    let index : ℕ = index_of a x in
    let n : ℕ = (slice_index_or axes k no_axis).count in
    let cells : ℕ = cells_of (take k axes) in
    let so_far : ℕ = cell_of (take k axes) xs in
    omega (arith, ap (λ (m : ℕ). index * m) (cells_more axes k (omega (arith, lt))), cell_more axes xs k (omega (arith, lt)) (omega (arith, long)), mul_assoc index cells n, add-mul (index * cells) so_far n)

-- ---- boxes on them

pub start_meets : (lo hi : List ℤ) → IsBoxMeeting [] lo hi one_cell
start_meets lo hi = record { inside = (λ h. (tt, tt), λ h. refl); corners = meeting_corners [] lo hi (λ i d lt. absurd (omega (arith, lt))) tt (tt, tt) }

module _ (axes : List Axis) (lo hi : List ℤ) (k : ℕ) (each : All IsAxis axes) (ordered : IsAtMost axes lo hi) (lt : k < length axes) where
  abbrev a : Axis
  a = slice_index_or axes k no_axis

  abbrev low : ℤ
  low = slice_index_or lo k (pos 0)

  abbrev high : ℤ
  high = slice_index_or hi k (pos 0)

  grown : (found : Option CellBox) (extent : Option Extent) → IsBoxMeeting (take k axes) lo hi found → IsExtentOf a low high extent → IsBoxMeeting (take (suc k) axes) lo hi (with_extent a found extent)
  grown None extent box is = record {
    inside = (
      λ h. absurd (false≢true h),
      λ inside. absurd (false≢true (box.inside.1 ((domain_less axes lo k lt inside.0).0, (domain_less axes hi k lt inside.1).0))),
    );
    corners = tt;
  }
  grown (Some b) None box is = record {
    inside = (
      λ h. absurd (false≢true h),
      λ inside. absurd (false≢true (is.inside.1 ((domain_less axes lo k lt inside.0).1, (domain_less axes hi k lt inside.1).1))),
    );
    corners = tt;
  }
  grown (Some b) (Some s) box is =
      let long = at_most_long axes lo hi ordered in
      let long_lo : k < length lo = omega (arith, lt, long.0) in
      let long_hi : k < length hi = omega (arith, lt, long.1) in
      let before = box.inside.0 refl in
      let on = is.inside.0 refl in
      let whole : IsBoxInDomain (take (suc k) axes) lo hi = (domain_more axes lo k lt long_lo before.0 on.0, domain_more axes hi k lt long_hi before.1 on.1) in
      let first : cell_of (take (suc k) axes) lo ≡ b.first * a.count + s.first = cell_more axes lo k lt long_lo ∙ ap₂ (λ (c p : ℕ). c * a.count + p) (sym box.corners.first_is) (sym is.indices.0) in
      let last : cell_of (take (suc k) axes) hi ≡ b.last * a.count + s.last = cell_more axes hi k lt long_hi ∙ ap₂ (λ (c p : ℕ). c * a.count + p) (sym box.corners.last_is) (sym is.indices.1) in
      record {
        inside = (λ h. whole, λ h. refl);
        corners =
            subst₂ (AreCornersMeeting (take (suc k) axes) lo hi) first last
            (meeting_corners (take (suc k) axes) lo hi (All-take IsAxis (suc k) axes each) (at_most_take (suc k) axes lo hi ordered) whole);
      }

pub more_meets : (axes : List Axis) (lo hi : List ℤ) (k : ℕ) (found : Option CellBox) (extent : Option Extent) → All IsAxis axes → IsAtMost axes lo hi → k < length axes →
    IsBoxMeeting (take k axes) lo hi found → IsExtentOf (slice_index_or axes k no_axis) (slice_index_or lo k (pos 0)) (slice_index_or hi k (pos 0)) extent →
    IsBoxMeeting (take (k + 1) axes) lo hi (with_extent (slice_index_or axes k no_axis) found extent)
more_meets axes lo hi k found extent each ordered lt box is =
    let next : suc k ≡ k + 1 = omega arith in
    subst (λ (n : ℕ). IsBoxMeeting (take n axes) lo hi (with_extent (slice_index_or axes k no_axis) found extent)) next (grown axes lo hi k each ordered lt found extent box is)

-- ---- the loop that adds extent after extent

module _ (axes : List Axis) (lo hi : List ℤ) (extents : List (Option Extent)) (i : ℕ) (b : CellBox) (each : All IsAxis axes) (are : AreExtentsOf axes lo hi extents) (lt : i < length axes) (box : IsBoxMeeting (take i axes) lo hi (Some b)) where
  -- one extent more
  pub with_next : (s : Extent) → slice_index_or extents i None ≡ Some s → IsBoxMeeting (take (i + 1) axes) lo hi (with_extent (slice_index_or axes i no_axis) (Some b) (Some s))
  with_next s was = rw was at (more_meets axes lo hi i (Some b) (slice_index_or extents i None) each are.ordered lt box (are.each i lt))

  -- a missing extent
  pub none_inside : slice_index_or extents i None ≡ None → IsBoxInDomain axes lo hi → ⊥
  none_inside was inside = false≢true (rw was at (are.each i lt).inside.1 (domain_each axes lo i inside.0 lt, domain_each axes hi i inside.1 lt))

-- the cells of a box on the first axes are cells of the grid
pub corners_within : (axes : List Axis) (lo hi : List ℤ) (k : ℕ) (b : CellBox) → All IsAxis axes → IsBoxMeeting (take k axes) lo hi (Some b) → (b.first < cells_of axes) × (b.last < cells_of axes)
corners_within axes lo hi k b each box =
    (omega (arith, box.corners.first_below, cells_of-take k axes each), omega (arith, box.corners.last_below, cells_of-take k axes each))

-- their corners are in order
pub box_within : (axes : List Axis) (lo hi : List ℤ) (k : ℕ) (found : Option CellBox) → All IsAxis axes → IsBoxMeeting (take k axes) lo hi found → IfSome found (λ (b : CellBox). (b.first ≤ b.last) × (b.last < cells_of axes))
box_within axes lo hi k None each box = tt
box_within axes lo hi k (Some b) each box =
    let corners = box.corners in
    (box_ordered (take k axes) b.first b.last (All-take IsAxis k axes each) corners.first_below corners.last_below corners.ordered, (corners_within axes lo hi k b each box).1)
