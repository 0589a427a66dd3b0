-- The counts of parts of the boxes, put together.
use Rattle.std.proofs.Common.{◌≡◌, ℕ, zero, suc, ◌+◌, ◌-◌, ◌*◌, ◌^◌, ◌/◌, ◌%◌, max, min, ◌<◌, ◌≤◌, List, ◌++◌, All, length, take, drop, get_or, set, replicate, sum, Option, Some, None, refl, sym, ap, subst, ◌∙◌, arith, inl, inr}
use Rattle.std.specs.Fork.{slice_chunk}
use Rattle.std.proofs.lemmas.Bool.{cases_lt}
use Rattle.std.proofs.lemmas.Grind.{common_steps, div_ceil_times}
use Rattle.std.proofs.lemmas.List.{get_or_past, get_or-set_same, get_or-set_other, get_or-replicate, length-set, length-replicate, take_all}
use Rattle.std.proofs.lemmas.List.Elements.{All-append, All-weaker}
use Rattle.std.proofs.lemmas.List.Sums.{sum_by_more, sum_by-append, sum_by-set, sum_by-take-le}
use Rattle.std.proofs.Math.Seq.{take-add}
use Rattle.grid_quantiser.specs.declared.axis.Axis.{Axis}
use Rattle.grid_quantiser.specs.declared.boxes.CellBox.{CellBox}
use Rattle.grid_quantiser.specs.Axes.{cells_of, AreAxes}
use Rattle.successor_box.specs.SuccessorBoxes.{cells_in}
use Rattle.source_lists.specs.inside.FanCounts.{GoesOnIn, known_count, AreMerged, CountBoxes}
use Rattle.source_lists.specs.Fans.{IsCounted, AreShapes, HasFan, FanIsKnown, AreFansOf}
use Rattle.plant_game.specs.BoxGame.{IsBox, edges_of}
use Rattle.source_lists.proofs.CountedFans.{same_count, same_sum, counted_still, counted_within}
use Rattle.source_lists.proofs.SourceSteps.{edges_fit}
use Rattle.source_lists.proofs.Tallying.{by_cell}

-- ---- the first of two counts that is not 0

known-zero : (n : ℕ) → known_count n 0 ≡ n
known-zero zero = refl
known-zero (suc n) = refl

known-some : (n other : ℕ) → 1 ≤ n → known_count n other ≡ n
known-some zero other some = absurd (omega (arith, some))
known-some (suc n) other some = refl

known-none : (n other : ℕ) → n ≡ 0 → known_count n other ≡ other
known-none zero other none = refl
known-none (suc n) other none = absurd (omega (arith, none))

-- ---- a loop over the counts of other boxes

-- The counts before, where the first n of other boxes were put in place of zeros.
pub record FilledSoFar (before other after : List ℕ) (n : ℕ) : Type 0 where
  pub long : length after ≡ length before
  pub each : (d : ℕ) → d < n → get_or after d 0 ≡ known_count (get_or before d 0) (get_or other d 0)
  pub rest : (d : ℕ) → n ≤ d → get_or after d 0 ≡ get_or before d 0
  pub total : sum after ≤ sum before + sum (take n other)

module _ (before other after : List ℕ) (n : ℕ) (below : n < length other) (h : FilledSoFar before other after n) where
  unchanged : get_or after n 0 ≡ get_or before n 0
  unchanged = h.rest n (omega arith)

  -- there was a count
  pub filled_same : 1 ≤ get_or after n 0 → FilledSoFar before other after (n + 1)
  filled_same some =
      let before_some : 1 ≤ get_or before n 0 = omega (arith, unchanged, some) in
      let here = unchanged ∙ sym (known-some (get_or before n 0) (get_or other n 0) before_some) in
      record {
        long = h.long;
        each = λ d lt. by_cell d n
            (λ same. subst (λ (j : ℕ). get_or after j 0 ≡ known_count (get_or before j 0) (get_or other j 0)) (sym same) here)
            (λ apart. h.each d (omega (arith, lt, apart)));
        rest = λ d le. h.rest d (omega (arith, le));
        total = omega (arith, h.total, sum_by_more (λ x. x) other n 0 below);
      }

  -- there was none
  pub filled_more : get_or after n 0 ≡ 0 → n < length after → FilledSoFar before other (set after n (get_or other n 0)) (n + 1)
  filled_more none within =
      let here = get_or-set_same after n (get_or other n 0) 0 within ∙ sym (known-none (get_or before n 0) (get_or other n 0) (sym unchanged ∙ none)) in
      record {
        long = length-set after n (get_or other n 0) ∙ h.long;
        each = λ d lt. by_cell d n
            (λ same. subst (λ (j : ℕ). get_or (set after n (get_or other n 0)) j 0 ≡ known_count (get_or before j 0) (get_or other j 0)) (sym same) here)
            (λ apart. get_or-set_other after n d (get_or other n 0) 0 apart ∙ h.each d (omega (arith, lt, apart)));
        rest = λ d le. get_or-set_other after n d (get_or other n 0) 0 (omega (arith, le)) ∙ h.rest d (omega (arith, le));
        total = omega (arith, h.total, sum_by_more (λ x. x) other n 0 below, sum_by-set (λ x. x) after n (get_or other n 0) 0 within, none);
      }

-- all counts of the other boxes were gone over
pub filled_all : (before other after : List ℕ) (n : ℕ) → length other ≤ n → FilledSoFar before other after n → AreMerged before other after
filled_all before other after n whole h = record {
  few = omega (arith, h.long);
  each = λ d. elim (cases_lt d n) [
    | inl within ↦ h.each d within
    | inr past ↦ h.rest d past ∙ sym (ap (known_count (get_or before d 0)) (get_or_past other d 0 (omega (arith, past, whole))) ∙ known-zero (get_or before d 0))
  ];
  total = omega (arith, h.total, ap sum (take_all n other whole));
}

-- ---- room for the counts of other boxes

-- counts of 0 stand after those before
resized : (before : List ℕ) (n : ℕ) → length before ≤ n → GoesOnIn 0 before (take n before ++ replicate (n - length before) 0)
resized before n le = (
  replicate (n - length before) 0,
  ap (λ (ns : List ℕ). ns ++ replicate (n - length before) 0) (take_all n before le),
  λ k d lt. get_or-replicate (n - length before) k 0 d (omega (arith, lt, length-replicate {A = ℕ} (n - length before) 0)),
)

-- all numbers of a list were written over
pub written_over : (numbers new : List ℕ) (len : ℕ) → length new ≡ length numbers → len ≡ length numbers → take len (new ++ drop (length new) numbers) ≡ new
written_over numbers new len same whole = grind (arith, common_steps)

-- what was merged into the counts with more room was merged into those before
pub merged_in_room : (before other now after : List ℕ) (n : ℕ) → n ≡ max (length before) (length other) → now ≡ take n before ++ replicate (n - length before) 0 → length now ≡ n →
    AreMerged now other after → AreMerged before other after
merged_in_room before other now after n most room long h =
    let le : length before ≤ n = omega (arith, most) in
    let on = subst (GoesOnIn 0 before) (sym room) (resized before n le) in
    record {
      few = omega (arith, h.few, long, most);
      each = λ d. h.each d ∙ ap (λ (k : ℕ). known_count k (get_or other d 0)) (same_count before now on d);
      total = omega (arith, h.total, same_sum before now on);
    }

-- ---- the counts of two lists of boxes

module _ (axes : List Axis) (before other after : List ℕ) (m : AreMerged before other after) where
  -- a count that was there stays
  first_stays : (d : ℕ) → 1 ≤ get_or before d 0 → get_or after d 0 ≡ get_or before d 0
  first_stays d some = m.each d ∙ known-some (get_or before d 0) (get_or other d 0) some

  first_counted : (d : ℕ) → IsCounted axes before d → IsCounted axes after d
  first_counted d h = counted_still axes before after d (first_stays d h.some) h

  -- where both have a count it is that of the shape
  second_stays : AreShapes axes before → (d : ℕ) → IsCounted axes other d → get_or after d 0 ≡ get_or other d 0
  second_stays shapes d h = by_cell (get_or before d 0) 0
      (λ none. m.each d ∙ known-none (get_or before d 0) (get_or other d 0) none)
      (λ some. let one : 1 ≤ get_or before d 0 = omega (arith, some) in first_stays d one ∙ (shapes d one).cells ∙ sym h.cells)

  second_counted : AreShapes axes before → (d : ℕ) → IsCounted axes other d → IsCounted axes after d
  second_counted shapes d h = counted_still axes other after d (second_stays shapes d h) h

  -- each count that is left is that of a shape
  merged_shapes : AreShapes axes before → AreShapes axes other → AreShapes axes after
  merged_shapes first second d some = by_cell (get_or before d 0) 0
      (λ none. second_counted first d (second d (omega (arith, m.each d ∙ known-none (get_or before d 0) (get_or other d 0) none, some))))
      (λ there. first_counted d (first d (omega (arith, there))))

  -- the count at the distance of a box stays that of the box
  fan_stays : (fans : List ℕ) (b : CellBox) → IsCounted axes after (b.last - b.first) → get_or after (b.last - b.first) 0 ≡ get_or fans (b.last - b.first) 0 → HasFan axes fans b → HasFan axes after b
  fan_stays fans b counted same h = record { ordered = h.ordered; within = counted_within axes after (b.last - b.first) counted; some = counted.some; cells = same ∙ h.cells }

  first_known : AreShapes axes before → (o : Option CellBox) → FanIsKnown axes before o → FanIsKnown axes after o
  first_known shapes None h = tt
  first_known shapes (Some b) h = fan_stays before b (first_counted (b.last - b.first) (shapes (b.last - b.first) h.some)) (first_stays (b.last - b.first) h.some) h

  second_known : AreShapes axes before → AreShapes axes other → (o : Option CellBox) → FanIsKnown axes other o → FanIsKnown axes after o
  second_known first second None h = tt
  second_known first second (Some b) h =
      let counted = second (b.last - b.first) h.some in
      fan_stays other b (second_counted first (b.last - b.first) counted) (second_stays first (b.last - b.first) counted) h

  merged_fans : (xs ys : List (Option CellBox)) → AreFansOf axes xs before → AreFansOf axes ys other → AreFansOf axes (xs ++ ys) after
  merged_fans xs ys first second = record {
    distances = omega (arith, m.few, first.distances, second.distances);
    shapes = merged_shapes first.shapes second.shapes;
    each = All-append (FanIsKnown axes after) xs ys
        (All-weaker (FanIsKnown axes before) (FanIsKnown axes after) (first_known first.shapes) xs first.each)
        (All-weaker (FanIsKnown axes other) (FanIsKnown axes after) (second_known first.shapes second.shapes) ys second.each);
    few = omega (arith, m.total, first.few, second.few, sum_by-append (λ b. length (cells_in axes b)) xs ys);
  }

-- ---- the parts that a loop has put together

-- a part has boxes
pub some_size : (boxes parts : ℕ) → 0 < boxes → 0 < parts → 0 < boxes / parts + min 1 (boxes % parts)
some_size boxes parts some others = by_cell (boxes / parts + min 1 (boxes % parts)) 0
    (λ none. let whole = rw none at (div_ceil_times boxes parts others).0 in absurd (omega (arith, whole, some)))
    (λ apart. omega (arith, apart))

module _ (axes : List Axis) (boxes : List (Option CellBox)) (size n : ℕ) where
  -- the boxes of one more part
  next_part : take ((n + 1) * size) boxes ≡ take (n * size) boxes ++ slice_chunk boxes size n
  next_part = let next : (n + 1) * size ≡ n * size + size = omega arith in rw next (take-add (n * size) size boxes)

  more_edges : edges_of axes (take ((n + 1) * size) boxes) ≡ edges_of axes (take (n * size) boxes) + edges_of axes (slice_chunk boxes size n)
  more_edges = ap (edges_of axes) next_part ∙ sum_by-append (λ b. length (cells_in axes b)) (take (n * size) boxes) (slice_chunk boxes size n)

  -- the counts of one more part
  pub counts_more : (before other after : List ℕ) (edges more : ℕ) → AreMerged before other after → CountBoxes axes (take (n * size) boxes) before edges →
      CountBoxes axes (slice_chunk boxes size n) other more → CountBoxes axes (take ((n + 1) * size) boxes) after (edges + more)
  counts_more before other after edges more m first second = record {
    fans_are = rw next_part (merged_fans axes before other after m (take (n * size) boxes) (slice_chunk boxes size n) first.fans_are second.fans_are);
    edges_are = omega (arith, more_edges, first.edges_are, second.edges_are);
  }

  -- the edges of the parts together fit
  pub part_edges_fit : (edges more : ℕ) → AreAxes axes → All (IsBox axes) boxes → cells_of axes ≤ 2 ^ 20 → length boxes ≤ 2 ^ 22 →
      edges ≡ edges_of axes (take (n * size) boxes) → more ≡ edges_of axes (slice_chunk boxes size n) → edges + more < 2 ^ 64
  part_edges_fit edges more grid ordered cells pairs first second =
      omega (arith, first, second, more_edges, sum_by-take-le (λ b. length (cells_in axes b)) boxes ((n + 1) * size), edges_fit axes boxes grid ordered cells pairs)

  -- the parts are all boxes
  pub counts_all : (fans : List ℕ) (edges : ℕ) → length boxes ≤ n * size → CountBoxes axes (take (n * size) boxes) fans edges → CountBoxes axes boxes fans edges
  counts_all fans edges whole h = subst (λ (bs : List (Option CellBox)). CountBoxes axes bs fans edges) (take_all (n * size) boxes whole) h
