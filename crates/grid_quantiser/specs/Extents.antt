-- Where a box of states lies along each axis.
use Rattle.std.specs.Prelude.{◌≡◌, ℕ, ◌+◌, ◌<◌, ◌↔◌, ℤ, pos, ◌-ℤ◌, ◌*ℤ◌, ◌≤ℤ◌, ◌<ℤ◌, List, length, slice_index_or, Option, None, IsSome, IfSome}
use Rattle.grid_quantiser.specs.declared.axis.Axis.{Axis}
use Rattle.grid_quantiser.specs.declared.extents.Extent.{Extent}
use Rattle.grid_quantiser.specs.Axes.{end_of, no_axis}
use Rattle.grid_quantiser.specs.Cells.{index_of}
use Rattle.grid_quantiser.specs.CellBoxes.{IsAtMost}

-- a number is one of an axis
abbrev pub IsOnAxis : Axis → ℤ → Type 0
IsOnAxis a x = (a.lo ≤ℤ x) × (x <ℤ end_of a)

-- The indices of the least and the greatest number of a range, where both are on the axis.
pub record IsExtentOf (a : Axis) (low high : ℤ) (extent : Option Extent) : Type 0 where
  pub inside : IsSome extent ↔ (IsOnAxis a low × IsOnAxis a high)
  pub indices : IfSome extent (λ s. (s.first ≡ index_of a low) × (s.last ≡ index_of a high))
  pub on_axis : IfSome extent (λ s. (s.first < a.count) × (s.last < a.count))

-- an axis with as many indices again before its own
abbrev pub extended_axis : Axis → Axis
extended_axis a = record { lo = a.lo -ℤ (a.width *ℤ pos a.count); width = a.width; count = a.count + a.count }

-- the extent on the extended axis of a range that lies so many indices before the one from low to high
abbrev pub IsExtentBefore : Axis → ℕ → ℤ → ℤ → Option Extent → Type 0
IsExtentBefore a indices low high extent = IsExtentOf (extended_axis a) (low -ℤ (a.width *ℤ pos indices)) (high -ℤ (a.width *ℤ pos indices)) extent

-- an extent on the extended axis is that of some range, which lies so many indices before another one
abbrev pub IsShiftable : Axis → ℕ → Option Extent → Type 0
IsShiftable a indices before = (low : ℤ) × (high : ℤ) × (low ≤ℤ high) × IsExtentBefore a indices low high before

-- an extent on the axis is one on the extended axis, shifted by so many indices
abbrev pub IsShiftOf : Axis → ℕ → Option Extent → Option Extent → Type 0
IsShiftOf a indices before extent = (low high : ℤ) → low ≤ℤ high → IsExtentBefore a indices low high before → IsExtentOf a low high extent

-- The extents of the box from lo to hi, one on each axis.
pub record AreExtentsOf (axes : List Axis) (lo hi : List ℤ) (extents : List (Option Extent)) : Type 0 where
  pub ordered : IsAtMost axes lo hi
  pub each : (i : ℕ) → i < length axes → IsExtentOf (slice_index_or axes i no_axis) (slice_index_or lo i (pos 0)) (slice_index_or hi i (pos 0)) (slice_index_or extents i None)
