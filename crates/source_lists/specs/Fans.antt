-- How many cells boxes have, by the distance from their first cell to their last.
use Rattle.std.specs.Prelude.{◌≡◌, ℕ, ◌-◌, ◌<◌, ◌≤◌, List, length, slice_index, sum, Option, Some, None, IfSome}
use Rattle.std.specs.List.{All}
use Rattle.grid_quantiser.specs.declared.axis.Axis.{Axis}
use Rattle.grid_quantiser.specs.declared.boxes.CellBox.{CellBox}
use Rattle.grid_quantiser.specs.Axes.{cells_of}
use Rattle.grid_quantiser.specs.CellBoxes.{IsCellBox, cells_between}
use Rattle.plant_game.specs.BoxGame.{edges_of}
use Rattle.source_lists.specs.declared.fans.Fans.{Fans}

-- the counts of the distances
abbrev pub counts_of : Fans → List ℕ
counts_of fans = fans.counts.items

-- how many cells all boxes have
abbrev pub edges_counted : Fans → ℕ
edges_counted fans = fans.edges

-- the count at the distance of a box, and 0 where there is no box
abbrev pub fan_of : List ℕ → Option CellBox → ℕ
fan_of fans None = 0
fan_of fans (Some b) = slice_index fans (b.last - b.first)

-- A distance is that of a shape, and its count is how many cells the shape has: one at least.
pub record IsCounted (axes : List Axis) (fans : List ℕ) (distance : ℕ) : Type 0 where
  pub shape : IsCellBox axes 0 distance
  pub some : 1 ≤ slice_index fans distance
  pub cells : slice_index fans distance ≡ length (cells_between axes 0 distance)

-- each count but 0 is that of a shape
abbrev pub AreShapes : List Axis → List ℕ → Type 0
AreShapes axes fans = (distance : ℕ) → 1 ≤ slice_index fans distance → IsCounted axes fans distance

-- the shape of a box is counted, where there is a box
abbrev pub ShapeIsCounted : List Axis → List ℕ → Option CellBox → Type 0
ShapeIsCounted axes fans b = IfSome b (λ b. IsCounted axes fans (b.last - b.first))

-- The count at the distance of a box is how many cells the box has: one at least.
pub record HasFan (axes : List Axis) (fans : List ℕ) (b : CellBox) : Type 0 where
  pub ordered : b.first ≤ b.last
  pub within : b.last - b.first < length fans
  pub some : 1 ≤ slice_index fans (b.last - b.first)
  pub cells : slice_index fans (b.last - b.first) ≡ length (cells_between axes b.first b.last)

-- it is so of a box, where there is one
abbrev pub FanIsKnown : List Axis → List ℕ → Option CellBox → Type 0
FanIsKnown axes fans b = IfSome b (HasFan axes fans)

-- There is a count for the distance of each box of the list, how many cells it has, and all counts together are no more than the boxes' edges.
pub record AreFansOf (axes : List Axis) (boxes : List (Option CellBox)) (fans : List ℕ) : Type 0 where
  pub distances : length fans ≤ cells_of axes
  pub shapes : AreShapes axes fans
  pub each : All (FanIsKnown axes fans) boxes
  pub few : sum fans ≤ edges_of axes boxes
