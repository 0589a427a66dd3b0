-- What every plant keeps. No public clause names this.
use Rattle.std.specs.Prelude.{◌≡◌, ℕ, List, length, take}
use Rattle.grid_quantiser.specs.declared.axis.Axis.{Axis}
use Rattle.plant_record.specs.Description.{Description, axes_of, value_counts}
use Rattle.plant_record.specs.Limits.{IsWithinLimits}

-- The plant is within the limits, its grid is that of its states, and the counts are those of its input variables' values.
pub record IsStored (p : Description) (axes : List Axis) (counts : List ℕ) : Type 0 where
  pub limits : IsWithinLimits p
  pub grid : axes ≡ axes_of p
  pub counts_are : take (length p.inputs) counts ≡ value_counts p.inputs
