-- A grid keeps its axes in six indices.
use Rattle.std.specs.Prelude.{◌≡◌, ℕ, ◌-◌, ◌≤◌, List, ◌++◌, length, take, replicate}
use Rattle.grid_quantiser.specs.declared.axis.Axis.{Axis}
use Rattle.base.specs.declared.limits.TheConstants.{CELLS_LIMIT, STATES_LIMIT}
use Rattle.grid_quantiser.specs.Axes.{no_axis, counts_of, cells_of, AreAxes}

-- the axes, and no axis in the indices that are left of six
abbrev pub six_of : List Axis → List Axis
six_of axes = axes ++ replicate (STATES_LIMIT - length axes) no_axis

-- their counts, and 0 in the indices that are left of six
abbrev pub six_counts : List Axis → List ℕ
six_counts axes = counts_of axes ++ replicate (STATES_LIMIT - length axes) 0

-- Six indices keep the axes of a grid and their counts, beside how many they are and the number of its cells.
pub record IsStored (six : List Axis) (counts : List ℕ) (states cells : ℕ) : Type 0 where
  pub axes : AreAxes (take states six)
  pub rest : six ≡ six_of (take states six)
  pub counts_is : counts ≡ six_counts (take states six)
  pub states_is : states ≡ length (take states six)
  pub cells_is : cells ≡ cells_of (take states six)
  pub limit : cells ≤ CELLS_LIMIT
