-- The axes of a uniform grid, one for each state.
use Rattle.std.specs.Prelude.{ℕ, ◌≤◌, ℤ, pos, neg_ℤ, ◌+ℤ◌, ◌*ℤ◌, ◌<ℤ◌, ◌≤ℤ◌, List, [], ◌∷◌, length, slice_index_or}
use Rattle.std.specs.List.{All}
use Rattle.mixed_radix.specs.Radix.{size}
use Rattle.grid_quantiser.specs.declared.axis.Axis.{Axis}
use Rattle.base.specs.declared.limits.TheConstants.{NUMBER_LIMIT, STATES_LIMIT}

-- the least number past an axis
abbrev pub end_of : Axis → ℤ
end_of a = a.lo +ℤ (a.width *ℤ pos a.count)

-- An axis has a cell, and lies within 10^18.
pub record IsAxis (a : Axis) : Type 0 where
  pub some_width : pos 1 ≤ℤ a.width
  pub some_cell : 1 ≤ a.count
  pub low_bound : neg_ℤ (pos NUMBER_LIMIT) <ℤ a.lo
  pub high_bound : end_of a ≤ℤ pos NUMBER_LIMIT

-- what stands where there is no axis
abbrev pub no_axis : Axis
no_axis = record { lo = pos 0; width = pos 0; count = 0 }

-- the axis of a state
abbrev pub axis_at : List Axis → ℕ → Axis
axis_at axes i = slice_index_or axes i no_axis

-- how many indices each axis has
abbrev pub counts_of : List Axis → List ℕ
counts_of [] = []
counts_of (a ∷ axes) = a.count ∷ counts_of axes

-- how many cells there are
abbrev pub cells_of : List Axis → ℕ
cells_of axes = size (counts_of axes)

-- A grid has one axis for each of 1 to 6 states.
pub record AreAxes (axes : List Axis) : Type 0 where
  pub some_state : 1 ≤ length axes
  pub states_bound : length axes ≤ STATES_LIMIT
  pub each : All IsAxis axes
