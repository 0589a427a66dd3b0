-- Which cells are goals and which are obstacles: goals are under-approximated, obstacles are
-- over-approximated.
use Rattle.std.specs.Prelude.{ℕ}
use Rattle.std.specs.List.{Any}
use Rattle.grid_quantiser.specs.CellBoxes.{Touches, LiesInside}
use Rattle.plant_record.specs.declared.aims.StateBox.{StateBox}
use Rattle.plant_record.specs.Description.{Description, axes_of}

-- some point of the cell lies in an obstacle box
abbrev pub IsObstacleCell : Description → ℕ → Type 0
IsObstacleCell p c = Any (λ (b : StateBox). Touches (axes_of p) c b.low b.high) p.obstacles

-- no point lies in an obstacle box, and all points lie in one target box
abbrev pub IsGoalCell : Description → ℕ → Type 0
IsGoalCell p c = (IsObstacleCell p c → ⊥) × Any (λ (b : StateBox). LiesInside (axes_of p) c b.low b.high) p.targets
