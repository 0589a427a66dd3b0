-- The segments of the cells of boxes, listed by the shapes of the boxes.
use Rattle.std.specs.Prelude.{◌≡◌, ℕ, ◌+◌, ◌-◌, ◌<◌, ◌≤◌, List, [], take, drop, length, slice_index, slice_index_or, Option, Some, None, IfSome}
use Rattle.std.specs.List.{All, flat_map, range_with_len}
use Rattle.grid_quantiser.specs.declared.axis.Axis.{Axis}
use Rattle.grid_quantiser.specs.declared.boxes.CellBox.{CellBox}
use Rattle.grid_quantiser.specs.Axes.{AreAxes, cells_of}
use Rattle.grid_quantiser.specs.CellBoxes.{cells_between}
use Rattle.plant_game.specs.BoxGame.{IsBox}
use Rattle.source_lists.specs.declared.shapes.Segment.{Segment}
use Rattle.source_lists.specs.declared.shapes.SegmentRange.{SegmentRange}
use Rattle.source_lists.specs.declared.shapes.Shapes.{Shapes}

-- the cells of segments, counted from a first cell
abbrev pub cells_from : ℕ → List Segment → List ℕ
cells_from first segments = flat_map (λ (r : Segment). range_with_len (first + r.start) r.len) segments

-- the cells of a segment, counted from a first cell, end by a bound
abbrev pub EndsBy : ℕ → ℕ → Segment → Type 0
EndsBy bound first r = first + r.start + r.len ≤ bound

-- where the segments of a shape stand
abbrev pub range_at : Shapes → ℕ → SegmentRange
range_at s distance_along = slice_index_or s.ranges.items distance_along (record { from = 0; to = 0 })

-- the segments of a shape
abbrev pub segments_at : Shapes → ℕ → List Segment
segments_at s distance_along = take ((range_at s distance_along).to - (range_at s distance_along).from) (drop (range_at s distance_along).from s.segments.items)

-- The segments of a shape stand among those of all.
pub record IsListed (s : Shapes) (distance_along : ℕ) : Type 0 where
  pub within : distance_along < length s.ranges.items
  pub ordered_ends : (range_at s distance_along).from ≤ (range_at s distance_along).to
  pub inside : (range_at s distance_along).to ≤ length s.segments.items

-- The segments of a shape are those of the box of that shape whose first cell is the first of all.
pub record HasSegmentsAt (axes : List Axis) (s : Shapes) (distance_along : ℕ) : Type 0 where
  pub listed : IsListed s distance_along
  pub some : All (λ (r : Segment). 1 ≤ r.len) (segments_at s distance_along)
  pub cells : cells_between axes 0 distance_along ≡ cells_from 0 (segments_at s distance_along)

-- The segments of the shape of a box are those of the box, counted from its first cell.
pub record HasSegmentsOf (axes : List Axis) (s : Shapes) (b : CellBox) : Type 0 where
  pub ordered : b.first ≤ b.last
  pub listed : IsListed s (b.last - b.first)
  pub some : All (λ (r : Segment). 1 ≤ r.len) (segments_at s (b.last - b.first))
  pub cells : cells_between axes b.first b.last ≡ cells_from b.first (segments_at s (b.last - b.first))

-- each box has its segments
abbrev pub EachBoxHasSegments : List Axis → Shapes → List (Option CellBox) → Type 0
EachBoxHasSegments axes s boxes = All (λ b. IfSome b (HasSegmentsOf axes s)) boxes

-- each shape whose cells are counted has its segments
abbrev pub EachShapeHasSegments : List Axis → Shapes → List ℕ → Type 0
EachShapeHasSegments axes s fans = (distance : ℕ) → 1 ≤ slice_index fans distance → HasSegmentsAt axes s distance

-- the cells of the segments of a box, where there is one
abbrev pub cells_listed : Shapes → Option CellBox → List ℕ
cells_listed s None = []
cells_listed s (Some b) = cells_from b.first (segments_at s (b.last - b.first))

-- On some grid of so many cells a box has its segments, where there is one.
pub record IsListedBox (s : Shapes) (cells : ℕ) (b : Option CellBox) : Type 0 where
  pub axes : List Axis
  pub grid : AreAxes axes
  pub all_cells : cells ≡ cells_of axes
  pub ordered : IsBox axes b
  pub segments : IfSome b (HasSegmentsOf axes s)
