-- Extents on an axis that is extended by its own length below.
use Rattle.std.proofs.Common.{◌≡◌, ℕ, ◌<◌, ◌≤◌, Option, None, Some, length, get_or, subst₂, refl, arith}
use Rattle.std.proofs.lemmas.Int.{ints}
use Rattle.std.specs.Prelude.{ℤ, pos, nat_abs, ◌+ℤ◌, ◌-ℤ◌, ◌*ℤ◌, ◌≤ℤ◌, IfSome}
use Rattle.grid_quantiser.specs.declared.axis.Axis.{Axis}
use Rattle.grid_quantiser.specs.declared.extents.Extent.{Extent}
use Rattle.grid_quantiser.specs.Axes.{IsAxis, no_axis}
use Rattle.grid_quantiser.specs.Extents.{IsExtentOf, extended_axis, IsExtentBefore}
use Rattle.grid_quantiser.proofs.AxisNumbers.{some_width, offset_is}
use Rattle.plant_record.specs.Description.{Description, axes_of}
use Rattle.plant_record.specs.Soundness.{IsSound}
use Rattle.successor_box.specs.SuccessorBoxes.{low_corner, high_corner}
use Rattle.successor_box.specs.PairExtents.{IsExtentBeforeAt}
use Rattle.successor_box.proofs.ExtentEnds.{ends_ordered}
use Rattle.pair_boxes.specs.inside.ExtentTables.{IsRelativeExtent}
use Rattle.base.proofs.Products.{quotients_in_order}

-- a pair's extent, so many indices before, is on the extended axis
pub extended_at : (p : Description) → IsSound p → (i : ℕ) → i < length p.equations → (c u indices : ℕ) (extent : Option Extent) → IsExtentBeforeAt p c u i indices extent → IsRelativeExtent p i extent
extended_at p sound i lt c u indices extent is =
    let by : ℤ = (get_or (axes_of p) i no_axis).width *ℤ pos indices in
    let low : ℤ = get_or (low_corner p c u) i (pos 0) in
    let high : ℤ = get_or (high_corner p c u) i (pos 0) in
    (low -ℤ by, high -ℤ by, (let e : (low -ℤ by) ≤ℤ (high -ℤ by) = omega (arith, ints, ends_ordered p c u i sound lt) in e), is)

-- an extent on the extended axis is that of a range so many indices further
pub shifted_range : (a : Axis) (indices : ℕ) (extent : Option Extent) → ((low : ℤ) × (high : ℤ) × (low ≤ℤ high) × IsExtentOf (extended_axis a) low high extent) → (low : ℤ) × (high : ℤ) × (low ≤ℤ high) × IsExtentBefore a indices low high extent
shifted_range a indices extent is =
    let by : ℤ = a.width *ℤ pos indices in
    let back : (x : ℤ) → x ≡ (x +ℤ by) -ℤ by = λ x. omega (arith, ints) in (
      is.0 +ℤ by,
      is.1 +ℤ by,
      (let e : (is.0 +ℤ by) ≤ℤ (is.1 +ℤ by) = omega (arith, ints, is.2) in e),
      subst₂ (λ (x y : ℤ). IsExtentOf (extended_axis a) x y extent) (back is.0) (back is.1) is.3,
    )

-- the indices of an extent are in order
pub extent_ordered : (a : Axis) (low high : ℤ) (extent : Option Extent) → IsAxis a → low ≤ℤ high → IsExtentOf a low high extent → IfSome extent (λ (s : Extent). s.first ≤ s.last)
extent_ordered a low high None axis order is = tt
extent_ordered a low high (Some s) axis order is =
    let on = is.inside.0 refl in
    let offsets : nat_abs (low -ℤ a.lo) ≤ nat_abs (high -ℤ a.lo) = omega (arith, ints, offset_is a low on.0.0, offset_is a high on.1.0, order) in
    omega (arith, is.indices.0, is.indices.1, quotients_in_order (nat_abs (low -ℤ a.lo)) (nat_abs (high -ℤ a.lo)) (nat_abs a.width) (some_width a axis) offsets)
