-- How segments are listed, shape by shape.
use Rattle.std.specs.Prelude.{◌≡◌, ℕ, ◌≤◌, List, ◌++◌, length}
use Rattle.std.specs.List.{All}
use Rattle.grid_quantiser.specs.declared.axis.Axis.{Axis}
use Rattle.source_lists.specs.declared.shapes.Segment.{Segment}
use Rattle.source_lists.specs.declared.shapes.Shapes.{Shapes}
use Rattle.source_lists.specs.Shapes.{cells_from, HasSegmentsAt}

-- each shape that had its segments still has them
abbrev pub KeepsSegments : List Axis → Shapes → Shapes → Type 0
KeepsSegments axes before after = (distance_along : ℕ) → HasSegmentsAt axes before distance_along → HasSegmentsAt axes after distance_along

-- The segments of cells were put after those before.
pub record ListsSegments (before after : List Segment) (cells : List ℕ) : Type 0 where
  pub more : List Segment
  pub appended : after ≡ before ++ more
  pub some : All (λ (r : Segment). 1 ≤ r.len) more
  pub parts : cells ≡ cells_from 0 more
  pub few : length more ≤ length cells
