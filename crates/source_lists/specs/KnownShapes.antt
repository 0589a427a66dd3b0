-- Shapes that are counted and listed when they first come.
use Rattle.std.specs.Prelude.{ℕ, ◌≤◌, List, length, Option}
use Rattle.std.specs.List.{All}
use Rattle.grid_quantiser.specs.declared.axis.Axis.{Axis}
use Rattle.grid_quantiser.specs.declared.boxes.CellBox.{CellBox}
use Rattle.grid_quantiser.specs.Axes.{cells_of}
use Rattle.source_lists.specs.declared.shapes.Shapes.{Shapes}
use Rattle.source_lists.specs.declared.known_shapes.KnownShapes.{KnownShapes}
use Rattle.source_lists.specs.Fans.{IsCounted, AreShapes}
use Rattle.source_lists.specs.Shapes.{EachBoxHasSegments, EachShapeHasSegments}
use Rattle.plant_game.specs.BoxGame.{IsBox}
use Rattle.base.specs.declared.limits.TheConstants.{EDGES_LIMIT}

-- After boxes with so many edges the shapes are counted, and listed if these aren't too many.
pub record AreKnown (axes : List Axis) (edges : ℕ) (fans : List ℕ) (s : Shapes) : Type 0 where
  pub distances : length fans ≤ cells_of axes
  pub shapes_are : AreShapes axes fans
  pub few : length s.segments.items ≤ edges
  pub listed : edges ≤ EDGES_LIMIT → EachShapeHasSegments axes s fans

-- how many edges the boxes so far have
abbrev pub edges_known : KnownShapes → ℕ
edges_known known = known.fans.edges

-- the segments of the shapes so far
abbrev pub shapes_known : KnownShapes → Shapes
shapes_known known = known.shapes

-- the boxes so far don't have too many edges
abbrev pub HasFewEdges : KnownShapes → Type 0
HasFewEdges known = edges_known known ≤ EDGES_LIMIT

-- unless there are too many edges, each of some boxes has its segments among those of the shapes so far
abbrev pub KnowsBoxes : List Axis → KnownShapes → List (Option CellBox) → Type 0
KnowsBoxes axes known boxes = HasFewEdges known → EachBoxHasSegments axes (shapes_known known) boxes

-- the shapes of boxes with so many edges are known
abbrev pub Knows : List Axis → ℕ → KnownShapes → Type 0
Knows axes edges known = AreKnown axes edges known.fans.counts.items known.shapes

-- Each shape that was counted still is, and boxes whose segments were among those of the shapes still have theirs there.
pub record StayKnown (axes : List Axis) (before after : KnownShapes) : Type 0 where
  pub counted : (distance : ℕ) →
      IsCounted axes before.fans.counts.items distance → IsCounted axes after.fans.counts.items distance
  pub listed : (boxes : List (Option CellBox)) → All (IsBox axes) boxes →
      KnowsBoxes axes before boxes → KnowsBoxes axes after boxes
