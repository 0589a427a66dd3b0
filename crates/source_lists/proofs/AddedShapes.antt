-- One more box whose shape is counted and listed.
use Rattle.std.proofs.Common.{◌≡◌, ℕ, ◌+◌, ◌-◌, ◌<◌, ◌≤◌, List, All, length, take, drop, get_or, Option, Some, None, sym, ap, subst, ◌∙◌, arith}
use Rattle.std.specs.Prelude.{IfSome}
use Rattle.std.proofs.lemmas.List.{get_or_append_left, length-append}
use Rattle.std.proofs.lemmas.List.Sums.{sum_by_more}
use Rattle.grid_quantiser.specs.declared.axis.Axis.{Axis}
use Rattle.grid_quantiser.specs.declared.boxes.CellBox.{CellBox}
use Rattle.grid_quantiser.specs.Axes.{cells_of, AreAxes}
use Rattle.successor_box.specs.SuccessorBoxes.{cells_in}
use Rattle.source_lists.specs.declared.shapes.Segment.{Segment}
use Rattle.source_lists.specs.declared.shapes.SegmentRange.{SegmentRange}
use Rattle.source_lists.specs.declared.shapes.Shapes.{Shapes}
use Rattle.source_lists.specs.declared.known_shapes.KnownShapes.{KnownShapes}
use Rattle.source_lists.specs.Fans.{IsCounted, ShapeIsCounted}
use Rattle.source_lists.specs.inside.FanCounts.{GoesOnIn, KeepsFans, AreSameBut}
use Rattle.source_lists.specs.KnownShapes.{AreKnown, Knows, edges_known}
use Rattle.source_lists.specs.inside.ListedSegments.{KeepsSegments}
use Rattle.source_lists.specs.Shapes.{range_at, segments_at, HasSegmentsAt, HasSegmentsOf, EachBoxHasSegments, EachShapeHasSegments}
use Rattle.plant_game.specs.BoxGame.{IsBox, edges_of}
use Rattle.source_lists.proofs.BelowBoxes.{boxes_are_shifted_shapes}
use Rattle.source_lists.proofs.CountedFans.{kept_for}
use Rattle.source_lists.proofs.ListedShapes.{box_segments, shape_segments, still_has}
use Rattle.source_lists.proofs.Tallying.{by_cell}

-- ---- one more shape

module _ (axes : List Axis) (edges later : ℕ) (fans after : List ℕ) (s : Shapes) (le : edges ≤ later) (h : AreKnown axes edges fans s) (distances : length after ≤ cells_of axes) (keeps : KeepsFans axes fans after) where
  -- it is counted and listed
  pub listed_more : (t : Shapes) (distance : ℕ) → AreSameBut distance fans after → length t.segments.items ≤ later → KeepsSegments axes s t → HasSegmentsAt axes t distance → AreKnown axes later after t
  listed_more t distance others few kept here = record {
    distances = distances;
    shapes_are = keeps.shapes;
    few = few;
    listed = λ limit k some. by_cell k distance
        (λ same. subst (HasSegmentsAt axes t) (sym same) here)
        (λ other. kept k (h.listed (omega (arith, le, limit)) k (omega (arith, some, others k other))));
  }

-- ranges that stand after the others change none of them
pub range_kept : (axes : List Axis) (before after : Shapes) (empty : SegmentRange) → GoesOnIn empty before.ranges.items after.ranges.items → after.segments.items ≡ before.segments.items → KeepsSegments axes before after
range_kept axes before after empty range same = λ k h.
    let none : SegmentRange = record { from = 0; to = 0 } in
    let at : range_at after k ≡ range_at before k = ap (λ (rs : List SegmentRange). get_or rs k none) range.1 ∙ get_or_append_left before.ranges.items range.0 none k h.listed.within in
    let segments : segments_at after k ≡ segments_at before k =
    ap (λ (r : SegmentRange). take (r.to - r.from) (drop r.from after.segments.items)) at ∙ ap (λ (rs : List Segment). take ((range_at before k).to - (range_at before k).from) (drop (range_at before k).from rs)) same
    in
    still_has axes before after k (omega (arith, ap length range.1, length-append before.ranges.items range.0)) at (omega (arith, ap length same)) segments h

-- ---- the boxes that a loop has taken in

pub record AddedSoFar (axes : List Axis) (boxes : List (Option CellBox)) (n : ℕ) (before : KnownShapes) (edges : ℕ) (fans : List ℕ) (s : Shapes) : Type 0 where
  pub known_are : AreKnown axes edges fans s
  pub edges_so_far : edges ≡ edges_known before + edges_of axes (take n boxes)
  pub counted : (k : ℕ) → k < n → ShapeIsCounted axes fans (get_or boxes k None)
  pub kept : (distance : ℕ) → IsCounted axes before.fans.counts.items distance → IsCounted axes fans distance
  pub segments : KeepsSegments axes before.shapes s

pub none_added : (axes : List Axis) (boxes : List (Option CellBox)) (before : KnownShapes) → Knows axes (edges_known before) before → AddedSoFar axes boxes 0 before (edges_known before) before.fans.counts.items before.shapes
none_added axes boxes before known = record {
  known_are = known;
  edges_so_far = omega arith;
  counted = λ k lt. absurd (omega (arith, lt));
  kept = λ k has. has;
  segments = λ k has. has;
}

pub added_more : (axes : List Axis) (boxes : List (Option CellBox)) (n : ℕ) (before : KnownShapes) (edges cells : ℕ) (fans after : List ℕ) (s t : Shapes) → n < length boxes → AddedSoFar axes boxes n before edges fans s → AreKnown axes (edges + cells) after t →
    KeepsFans axes fans after → KeepsSegments axes s t → ShapeIsCounted axes after (get_or boxes n None) → cells ≡ length (cells_in axes (get_or boxes n None)) → AddedSoFar axes boxes (n + 1) before (edges + cells) after t
added_more axes boxes n before edges cells fans after s t below h known keep segments counted count = record {
  known_are = known;
  edges_so_far = omega (arith, h.edges_so_far, count, sum_by_more (λ b. length (cells_in axes b)) boxes n None below);
  counted = λ k lt. by_cell k n
      (λ same. subst (λ (j : ℕ). ShapeIsCounted axes after (get_or boxes j None)) (sym same) counted)
      (λ other. kept_for axes fans after (get_or boxes k None) keep (h.counted k (omega (arith, lt, other))));
  kept = λ k has. keep.kept k (h.kept k has);
  segments = λ k has. segments k (h.segments k has);
}

-- ---- the segments of boxes whose shapes are counted and listed

segments_known : (axes : List Axis) (s : Shapes) (fans : List ℕ) (o : Option CellBox) → AreAxes axes → IsBox axes o → EachShapeHasSegments axes s fans → ShapeIsCounted axes fans o → IfSome o (HasSegmentsOf axes s)
segments_known axes s fans None grid ordered has counted = tt
segments_known axes s fans (Some b) grid ordered has counted = box_segments axes s b (boxes_are_shifted_shapes axes b.first b.last grid ordered) (has (b.last - b.first) counted.some)

pub all_segments_known : (axes : List Axis) (s : Shapes) (fans : List ℕ) (boxes : List (Option CellBox)) → AreAxes axes → All (IsBox axes) boxes → EachShapeHasSegments axes s fans → All (ShapeIsCounted axes fans) boxes → EachBoxHasSegments axes s boxes
all_segments_known axes s fans boxes grid ordered has counted = λ k d lt. segments_known axes s fans (get_or boxes k d) grid (ordered k d lt) has (counted k d lt)

-- ---- the segments of boxes that came before

keep_box : (axes : List Axis) (s t : Shapes) (o : Option CellBox) → AreAxes axes → KeepsSegments axes s t → IsBox axes o → IfSome o (HasSegmentsOf axes s) → IfSome o (HasSegmentsOf axes t)
keep_box axes s t None grid keep ordered has = tt
keep_box axes s t (Some b) grid keep ordered has =
    let moved = boxes_are_shifted_shapes axes b.first b.last grid ordered in
    box_segments axes t b moved (keep (b.last - b.first) (shape_segments axes s b moved has))

pub keep_segments : (axes : List Axis) (s t : Shapes) → AreAxes axes → KeepsSegments axes s t → (boxes : List (Option CellBox)) → All (IsBox axes) boxes → EachBoxHasSegments axes s boxes → EachBoxHasSegments axes t boxes
keep_segments axes s t grid keep boxes ordered has = λ k d lt. keep_box axes s t (get_or boxes k d) grid keep (ordered k d lt) (has k d lt)
