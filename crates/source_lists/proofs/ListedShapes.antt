-- One more shape whose segments are listed, and the boxes that have it.
use Rattle.std.proofs.Common.{◌≡◌, ◌≢◌, ℕ, suc, ◌+◌, ◌-◌, ◌^◌, ◌<◌, ◌≤◌, List, [], ◌∷◌, ◌++◌, All, map, length, take, drop, get_or, set, sum, Option, Some, None, refl, sym, ap, subst, ◌∙◌, arith}
use Rattle.std.specs.Prelude.{IfSome}
use Rattle.std.specs.List.{range_with_len}
use Rattle.std.proofs.lemmas.List.Sums.{sum_by_more}
use Rattle.std.proofs.lemmas.List.{length-append, map-append, get_or-set_same, get_or-set_other, length-set, take_all, take-append-drop, take-append-le, drop-append-le, length-drop}
use Rattle.std.proofs.Math.Seq.{drop-append_seam}
use Rattle.grid_quantiser.specs.declared.axis.Axis.{Axis}
use Rattle.grid_quantiser.specs.declared.boxes.CellBox.{CellBox}
use Rattle.grid_quantiser.specs.Axes.{cells_of, AreAxes}
use Rattle.grid_quantiser.specs.CellBoxes.{cells_between}
use Rattle.grid_quantiser.specs.Laws.{IsShiftedShape}
use Rattle.successor_box.specs.SuccessorBoxes.{cells_in}
use Rattle.source_lists.specs.declared.shapes.Segment.{Segment}
use Rattle.source_lists.specs.declared.shapes.SegmentRange.{SegmentRange}
use Rattle.source_lists.specs.declared.shapes.Shapes.{Shapes}
use Rattle.source_lists.specs.Fans.{FanIsKnown, AreFansOf}
use Rattle.source_lists.specs.Shapes.{cells_from, EndsBy, range_at, segments_at, HasSegmentsAt, HasSegmentsOf, EachBoxHasSegments, EachShapeHasSegments}
use Rattle.source_lists.specs.inside.ListedSegments.{KeepsSegments, ListsSegments}
use Rattle.plant_game.specs.BoxGame.{IsBox}
use Rattle.source_lists.specs.inside.Tallies.{slots_in}
use Rattle.source_lists.proofs.BelowBoxes.{cells_lie_between_corners, boxes_are_shifted_shapes}
use Rattle.source_lists.proofs.Tallying.{by_cell}
use Rattle.source_lists.proofs.BandSlots.{slots-append, segment_inside}
use Rattle.source_lists.proofs.PassingBoxes.{segments_end_below}
use Rattle.source_lists.proofs.Segments.{cells-append, one_segment_more, segments_end}
use Rattle.base.proofs.Ranges.{map-add-range}

-- ---- segments that are shifted

moved_cells : (first : ℕ) (segments : List Segment) → map (λ c. first + c) (cells_from 0 segments) ≡ cells_from first segments
moved_cells first [] = refl
moved_cells first (r ∷ segments) =
    map-append (λ c. first + c) (range_with_len (0 + r.start) r.len) (cells_from 0 segments)
    ∙ ap (λ xs. xs ++ map (λ c. first + c) (cells_from 0 segments)) (map-add-range first (0 + r.start) r.len ∙ ap (λ s. range_with_len s r.len) (let e : first + (0 + r.start) ≡ first + r.start = omega arith in e))
    ∙ ap (λ xs. range_with_len (first + r.start) r.len ++ xs) (moved_cells first segments)

moved_back : (first : ℕ) (cells : List ℕ) → map (λ c. c - first) (map (λ c. first + c) cells) ≡ cells
moved_back first [] = refl
moved_back first (c ∷ cells) =
    let back : first + c - first ≡ c = omega arith in
    λ i. back i ∷ moved_back first cells i

-- the segments of the shape of a box are its own
pub box_segments : (axes : List Axis) (s : Shapes) (b : CellBox) → IsShiftedShape axes b.first b.last → HasSegmentsAt axes s (b.last - b.first) → HasSegmentsOf axes s b
box_segments axes s b moved h = record {
  ordered = moved.ordered;
  listed = h.listed;
  some = h.some;
  cells = moved.cells ∙ ap (map (λ c. b.first + c)) h.cells ∙ moved_cells b.first (segments_at s (b.last - b.first));
}

-- and the other way round
pub shape_segments : (axes : List Axis) (s : Shapes) (b : CellBox) → IsShiftedShape axes b.first b.last → HasSegmentsOf axes s b → HasSegmentsAt axes s (b.last - b.first)
shape_segments axes s b moved h =
    let segments = segments_at s (b.last - b.first) in
    record {
      listed = h.listed;
      some = h.some;
      cells = sym (moved_back b.first (cells_between axes 0 (b.last - b.first)))
          ∙ ap (map (λ c. c - b.first)) (sym moved.cells ∙ h.cells ∙ sym (moved_cells b.first segments))
          ∙ moved_back b.first (cells_from 0 segments);
    }

-- ---- one more shape

-- segments that are put after others change none of them
after_slice : (from to : ℕ) (xs more : List Segment) → from ≤ to → to ≤ length xs → take (to - from) (drop from (xs ++ more)) ≡ take (to - from) (drop from xs)
after_slice from to xs more ordered_ends inside =
    ap (take (to - from)) (drop-append-le from xs more (omega (arith, ordered_ends, inside)))
    ∙ take-append-le (to - from) (drop from xs) more (omega (arith, length-drop from xs, inside, ordered_ends))

new_slice : (xs more : List Segment) → take (length (xs ++ more) - length xs) (drop (length xs) (xs ++ more)) ≡ more
new_slice xs more =
    ap (take (length (xs ++ more) - length xs)) (drop-append_seam xs more) ∙ take_all (length (xs ++ more) - length xs) more (omega (arith, length-append xs more))

-- a shape whose range and segments stay still has its segments
pub still_has : (axes : List Axis) (before after : Shapes) (k : ℕ) → length before.ranges.items ≤ length after.ranges.items → range_at after k ≡ range_at before k →
    length before.segments.items ≤ length after.segments.items → segments_at after k ≡ segments_at before k → HasSegmentsAt axes before k → HasSegmentsAt axes after k
still_has axes before after k ranges at segments same h = record {
  listed = record {
    within = omega (arith, ranges, h.listed.within);
    ordered_ends = rw at h.listed.ordered_ends;
    inside = rw at (omega (arith, segments, h.listed.inside));
  };
  some = rw same h.some;
  cells = h.cells ∙ ap (cells_from 0) (sym same);
}

module _ (axes : List Axis) (before after : Shapes) (distance_along : ℕ) (within : distance_along < length before.ranges.items)
    (ranges : after.ranges.items ≡ set before.ranges.items distance_along (record { from = length before.segments.items; to = length after.segments.items }))
    (lists : ListsSegments before.segments.items after.segments.items (cells_between axes 0 distance_along)) where
  abbrev here : SegmentRange
  here = record { from = length before.segments.items; to = length after.segments.items }

  range_here : range_at after distance_along ≡ here
  range_here = ap (λ xs. get_or xs distance_along (record { from = 0; to = 0 })) ranges ∙ get_or-set_same before.ranges.items distance_along here (record { from = 0; to = 0 }) within

  segments_here : segments_at after distance_along ≡ lists.more
  segments_here =
      ap (λ (s : SegmentRange). take (s.to - s.from) (drop s.from after.segments.items)) range_here
      ∙ ap (λ xs. take (length xs - length before.segments.items) (drop (length before.segments.items) xs)) lists.appended
      ∙ new_slice before.segments.items lists.more

  long : length before.segments.items ≤ length after.segments.items
  long = omega (arith, ap length lists.appended, length-append before.segments.items lists.more)

  pub has_here : HasSegmentsAt axes after distance_along
  has_here = record {
    listed = record {
      within = omega (arith, within, ap length ranges, length-set before.ranges.items distance_along here);
      ordered_ends = rw range_here long;
      inside = rw range_here (omega arith);
    };
    some = rw segments_here lists.some;
    cells = lists.parts ∙ ap (cells_from 0) (sym segments_here);
  }

  range_other : (k : ℕ) → k ≢ distance_along → range_at after k ≡ range_at before k
  range_other k other = ap (λ xs. get_or xs k (record { from = 0; to = 0 })) ranges ∙ get_or-set_other before.ranges.items distance_along k here (record { from = 0; to = 0 }) other

  kept_other : (k : ℕ) → k ≢ distance_along → HasSegmentsAt axes before k → HasSegmentsAt axes after k
  kept_other k other h =
      let same : segments_at after k ≡ segments_at before k =
      ap (λ (s : SegmentRange). take (s.to - s.from) (drop s.from after.segments.items)) (range_other k other)
      ∙ ap (λ xs. take ((range_at before k).to - (range_at before k).from) (drop (range_at before k).from xs)) lists.appended
      ∙ after_slice (range_at before k).from (range_at before k).to before.segments.items lists.more h.listed.ordered_ends h.listed.inside
      in
      still_has axes before after k (omega (arith, ap length ranges, length-set before.ranges.items distance_along here)) (range_other k other) long same h

  pub keeps : KeepsSegments axes before after
  keeps k h = by_cell k distance_along (λ same. subst (HasSegmentsAt axes after) (sym same) has_here) (λ other. kept_other k other h)

-- ---- the shapes that a loop over the distances has listed

pub record ShapesSoFar (axes : List Axis) (fans : List ℕ) (n : ℕ) (s : Shapes) : Type 0 where
  pub distances : length s.ranges.items ≡ length fans
  pub has : (k : ℕ) → k < n → 1 ≤ get_or fans k 0 → HasSegmentsAt axes s k
  pub few : length s.segments.items ≤ sum (take n fans)

pub shapes_more : (axes : List Axis) (fans : List ℕ) (n cells : ℕ) (before after : Shapes) → n < length fans → ShapesSoFar axes fans n before →
    length after.ranges.items ≡ length before.ranges.items → KeepsSegments axes before after → HasSegmentsAt axes after n →
    cells ≡ get_or fans n 0 → length after.segments.items ≤ length before.segments.items + cells → ShapesSoFar axes fans (n + 1) after
shapes_more axes fans n cells before after below h distances keep listed count few = record {
  distances = distances ∙ h.distances;
  has = λ k lt some. by_cell k n
      (λ same. subst (HasSegmentsAt axes after) (sym same) listed)
      (λ other. keep k (h.has k (omega (arith, lt, other)) some));
  few = omega (arith, few, h.few, count, sum_by_more (λ m. m) fans n 0 below);
}

-- a distance for which nothing is counted is skipped
pub shapes_past : (axes : List Axis) (fans : List ℕ) (n : ℕ) (s : Shapes) → n < length fans → get_or fans n 0 ≡ 0 → ShapesSoFar axes fans n s → ShapesSoFar axes fans (n + 1) s
shapes_past axes fans n s below none h = record {
  distances = h.distances;
  has = λ k lt some. by_cell k n
      (λ same. absurd (omega (arith, ap (λ (j : ℕ). get_or fans j 0) same, none, some)))
      (λ other. h.has k (omega (arith, lt, other)) some);
  few = omega (arith, h.few, sum_by_more (λ m. m) fans n 0 below);
}

segments_found : (axes : List Axis) (s : Shapes) (fans : List ℕ) (o : Option CellBox) → AreAxes axes → IsBox axes o → EachShapeHasSegments axes s fans → FanIsKnown axes fans o → IfSome o (HasSegmentsOf axes s)
segments_found axes s fans None grid ordered has known = tt
segments_found axes s fans (Some b) grid ordered has known = box_segments axes s b (boxes_are_shifted_shapes axes b.first b.last grid ordered) (has (b.last - b.first) known.some)

-- where the segments of all shapes that are counted are listed, each box has its own
pub have_segments : (axes : List Axis) (s : Shapes) (boxes : List (Option CellBox)) (fans : List ℕ) → AreAxes axes → All (IsBox axes) boxes → EachShapeHasSegments axes s fans → AreFansOf axes boxes fans → EachBoxHasSegments axes s boxes
have_segments axes s boxes fans grid ordered has counted = λ k d lt. segments_found axes s fans (get_or boxes k d) grid (ordered k d lt) has (counted.each k d lt)

-- the segments of a box end by the limit on cells
pub box_segments_end : (axes : List Axis) (s : Shapes) (o : Option CellBox) (b : CellBox) → o ≡ Some b → AreAxes axes → cells_of axes ≤ 2 ^ 20 → IsBox axes o → IfSome o (HasSegmentsOf axes s) →
    (segments : List Segment) → segments ≡ segments_at s (b.last - b.first) → All (EndsBy (2 ^ 20) b.first) segments
box_segments_end axes s o b is grid limit ordered has segments same =
    let ends = segments_end_below axes o b is grid ordered s has in
    rw same (λ k d lt. omega (arith, ends k d lt, limit))

-- ---- segments that are cut to a band

module _ (from len first : ℕ) (segments : List Segment) (k : ℕ) (d : Segment) (below : k < length segments) (slot n : ℕ) (cut : slots_in from len (range_with_len (first + (get_or segments k d).start) (get_or segments k d).len) ≡ range_with_len slot n) where
  abbrev done : List ℕ
  done = slots_in from len (cells_from first (take k segments))

  abbrev later : List ℕ
  later = slots_in from len (cells_from first (drop (k + 1) segments))

  pub one_cut_more : slots_in from len (cells_from first (take (k + 1) segments)) ≡ done ++ range_with_len slot n
  one_cut_more =
      ap (slots_in from len) (one_segment_more first segments k d below)
      ∙ slots-append from len (cells_from first (take k segments)) (range_with_len (first + (get_or segments k d).start) (get_or segments k d).len)
      ∙ ap (λ xs. done ++ xs) cut

  pub cuts_split : slots_in from len (cells_from first segments) ≡ (done ++ range_with_len slot n) ++ later
  cuts_split =
      ap (λ rs. slots_in from len (cells_from first rs)) (sym (take-append-drop (k + 1) segments))
      ∙ ap (slots_in from len) (cells-append first (take (k + 1) segments) (drop (k + 1) segments))
      ∙ slots-append from len (cells_from first (take (k + 1) segments)) (cells_from first (drop (k + 1) segments))
      ∙ ap (λ xs. xs ++ later) one_cut_more

-- ---- boxes whose cells all lie in a band

module _ (from len first : ℕ) (low : from ≤ first) where
  indices_inside : (segments : List Segment) → All (EndsBy (from + len) first) segments → slots_in from len (cells_from first segments) ≡ cells_from (first - from) segments
  indices_inside [] ends = refl
  indices_inside (r ∷ segments) ends =
      let here : first + r.start + r.len ≤ from + len = ends 0 r (omega arith) in
      let slot : first + r.start - from ≡ first - from + r.start = omega (arith, low) in
      slots-append from len (range_with_len (first + r.start) r.len) (cells_from first segments)
      ∙ ap (λ xs. xs ++ slots_in from len (cells_from first segments)) (segment_inside from len (first + r.start) r.len (omega (arith, low)) here ∙ ap (λ s. range_with_len s r.len) slot)
      ∙ ap (λ xs. range_with_len (first - from + r.start) r.len ++ xs) (indices_inside segments (λ k d lt. ends (suc k) d (omega (arith, lt))))

-- The indices of a box in a band are its segments, from the slot of its first cell on.
pub record IsInside (axes : List Axis) (o : Option CellBox) (from len first : ℕ) (segments : List Segment) : Type 0 where
  pub ends : All (EndsBy len (first - from)) segments
  pub indices : slots_in from len (cells_in axes o) ≡ cells_from (first - from) segments

pub box_inside : (axes : List Axis) (s : Shapes) (o : Option CellBox) (b : CellBox) → o ≡ Some b → AreAxes axes → IsBox axes o → IfSome o (HasSegmentsOf axes s) →
    (from len : ℕ) → (from ≤ b.first) × (b.last < from + len) → (segments : List Segment) → segments ≡ segments_at s (b.last - b.first) → IsInside axes o from len b.first segments
box_inside axes s o b is grid ordered has from len held segments same =
    let h : HasSegmentsOf axes s b = subst (λ (o : Option CellBox). IfSome o (HasSegmentsOf axes s)) is has in
    let cells = cells_lie_between_corners axes b.first b.last grid (subst (IsBox axes) is ordered) in
    let below : All (λ c. c < from + len) (cells_between axes b.first b.last) = λ k d lt. omega (arith, (cells k d lt).1, held.1) in
    let ends = segments_end (from + len) b.first (segments_at s (b.last - b.first)) h.some (subst (All (λ c. c < from + len)) h.cells below) in
    rw (same, is) (record {
      ends = λ k d lt. omega (arith, ends k d lt, held.0);
      indices = ap (slots_in from len) h.cells ∙ indices_inside from len b.first held.0 (segments_at s (b.last - b.first)) ends;
    })
