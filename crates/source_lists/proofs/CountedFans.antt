-- One more shape whose cells are counted, and the boxes that have it.
use Rattle.std.proofs.Common.{◌≡◌, ◌≢◌, ℕ, ◌+◌, ◌-◌, ◌*◌, ◌<◌, ◌≤◌, List, [], ◌∷◌, All, length, take, get_or, set, sum, Option, Some, None, sym, ap, subst, ◌∙◌, arith, inl, inr}
use Rattle.std.specs.Prelude.{IfSome}
use Rattle.std.proofs.lemmas.Bool.{cases_lt}
use Rattle.std.proofs.lemmas.List.{get_or_default, get_or_past, get_or_append_left, get_or-set_same, get_or-set_other, length-map, take_all}
use Rattle.std.proofs.lemmas.List.Sums.{sum_by_more, sum_by-append}
use Rattle.std.proofs.Math.Nat.{div-lt_iff_lt-mul, mul-zero}
use Rattle.std.proofs.Math.Seq.{get_or-append_right}
use Rattle.grid_quantiser.specs.declared.axis.Axis.{Axis}
use Rattle.grid_quantiser.specs.declared.boxes.CellBox.{CellBox}
use Rattle.grid_quantiser.specs.Axes.{cells_of, AreAxes}
use Rattle.grid_quantiser.specs.CellBoxes.{IsCellBox, cells_between}
use Rattle.grid_quantiser.specs.Laws.{IsShiftedShape}
use Rattle.grid_quantiser.proofs.Suffixes.{some_cells}
use Rattle.successor_box.specs.SuccessorBoxes.{cells_in}
use Rattle.source_lists.specs.inside.FanCounts.{GoesOnIn, KeepsFans}
use Rattle.source_lists.specs.Fans.{IsCounted, AreShapes, FanIsKnown, AreFansOf}
use Rattle.plant_game.specs.BoxGame.{IsBox, edges_of}
use Rattle.base.proofs.Counts.{sum_zeros}
use Rattle.source_lists.proofs.BelowBoxes.{boxes_are_shifted_shapes}
use Rattle.source_lists.proofs.Tallying.{by_cell}

-- the last corner of a box is a cell
pub last_below : (axes : List Axis) (f l : ℕ) → 1 ≤ length axes → 1 ≤ cells_of axes → IsCellBox axes f l → l < cells_of axes
last_below [] f l some cells box = absurd (omega (arith, some))
last_below (a ∷ axes) f l some cells box = by_cell (cells_of axes) 0
    (λ none. let no : a.count * cells_of axes ≡ 0 = ap (λ (n : ℕ). a.count * n) none ∙ mul-zero a.count in absurd (omega (arith, no, cells)))
    (λ other. let positive : 0 < cells_of axes = omega (arith, other) in (div-lt_iff_lt-mul positive).0 box.1)

-- the distance from the first cell of a box to its last is less than there are cells
distance_below : (axes : List Axis) (b : CellBox) → AreAxes axes → IsShiftedShape axes b.first b.last → b.last - b.first < cells_of axes
distance_below axes b grid moved = last_below axes 0 (b.last - b.first) grid.some_state (some_cells axes grid.each) moved.shape

-- a box has as many cells as its shape
pub as_many : (axes : List Axis) (b : CellBox) → IsShiftedShape axes b.first b.last → length (cells_between axes b.first b.last) ≡ length (cells_between axes 0 (b.last - b.first))
as_many axes b moved = ap length moved.cells ∙ length-map (cells_between axes 0 (b.last - b.first)) (λ c. b.first + c)

-- a box that is there is its shape, shifted
pub is_moved : (axes : List Axis) (o : Option CellBox) (b : CellBox) → o ≡ Some b → AreAxes axes → IsBox axes o → IsShiftedShape axes b.first b.last
is_moved axes o b is grid ordered = boxes_are_shifted_shapes axes b.first b.last grid (subst (IsBox axes) is ordered)

-- the count that is known for a box is how many cells it has
pub known_cells : (axes : List Axis) (fans : List ℕ) (o : Option CellBox) (b : CellBox) (cells : ℕ) → o ≡ Some b → AreAxes axes → IsBox axes o → AreShapes axes fans → 1 ≤ cells → cells ≡ get_or fans (b.last - b.first) 0 → cells ≡ length (cells_in axes o)
known_cells axes fans o b cells is grid ordered shapes some count =
    let counted = shapes (b.last - b.first) (omega (arith, count, some)) in
    rw is (count ∙ counted.cells ∙ sym (as_many axes b (is_moved axes o b is grid ordered)))

-- a count that stays is still that of its shape
pub counted_still : (axes : List Axis) (before after : List ℕ) (k : ℕ) → get_or after k 0 ≡ get_or before k 0 → IsCounted axes before k → IsCounted axes after k
counted_still axes before after k same h = record { shape = h.shape; some = omega (arith, same, h.some); cells = same ∙ h.cells }

-- ---- counts of 0 after the others

zeros_sum : (more : List ℕ) → All (λ n. n ≡ 0) more → sum more ≡ 0
zeros_sum more none = sum_zeros (λ n. n) more none

module _ (before after : List ℕ) (on : GoesOnIn 0 before after) where
  pub same_count : (k : ℕ) → get_or after k 0 ≡ get_or before k 0
  same_count k =
      ap (λ (ns : List ℕ). get_or ns k 0) on.1
      ∙ elim (cases_lt k (length before)) [
        | inl within ↦ get_or_append_left before on.0 0 k within
        | inr past ↦ get_or-append_right before on.0 k 0 past ∙ none (k - length before) ∙ sym (get_or_past before k 0 past)
      ]
    where
      none : (j : ℕ) → get_or on.0 j 0 ≡ 0
      none j = elim (cases_lt j (length on.0)) [
        | inl within ↦ on.2 j 0 within
        | inr past ↦ get_or_past on.0 j 0 past
      ]

  pub same_sum : sum after ≡ sum before
  same_sum = omega (arith, ap sum on.1, sum_by-append (λ n. n) before on.0, zeros_sum on.0 on.2)

module _ (axes : List Axis) (before after : List ℕ) (on : GoesOnIn 0 before after) where
  counted_too : (k : ℕ) → IsCounted axes before k → IsCounted axes after k
  counted_too k = counted_still axes before after k (same_count before after on k)

  pub keeps_all : AreShapes axes before → KeepsFans axes before after
  keeps_all shapes = record {
    shapes = λ k some. counted_too k (shapes k (omega (arith, same_count before after on k, some)));
    kept = counted_too;
  }

pub keeps_both : (axes : List Axis) (before now after : List ℕ) → KeepsFans axes before now → KeepsFans axes now after → KeepsFans axes before after
keeps_both axes before now after first second = record { shapes = second.shapes; kept = λ k h. second.kept k (first.kept k h) }

-- ---- one more shape

module _ (axes : List Axis) (before : List ℕ) (distance cells : ℕ) (within : distance < length before) (shape : IsCellBox axes 0 distance)
    (some : 1 ≤ cells) (count : cells ≡ length (cells_between axes 0 distance)) where
  abbrev now : List ℕ
  now = set before distance cells

  here : get_or now distance 0 ≡ cells
  here = get_or-set_same before distance cells 0 within

  counted_here : IsCounted axes now distance
  counted_here = record { shape = shape; some = omega (arith, here, some); cells = here ∙ count }

  there : (k : ℕ) → k ≢ distance → get_or now k 0 ≡ get_or before k 0
  there k other = get_or-set_other before distance k cells 0 other

  keeps_fans : AreShapes axes before → KeepsFans axes before now
  keeps_fans shapes = record {
    shapes = λ k known. by_cell k distance
        (λ same. subst (IsCounted axes now) (sym same) counted_here)
        (λ other. counted_still axes before now k (there k other) (shapes k (omega (arith, there k other, known))));
    kept = λ k h. by_cell k distance (λ same. subst (IsCounted axes now) (sym same) counted_here) (λ other. counted_still axes before now k (there k other) h);
  }

-- The shape of a box was counted.
pub record IsAdded (axes : List Axis) (before after : List ℕ) (b : CellBox) : Type 0 where
  pub counted : IsCounted axes after (b.last - b.first)
  pub kept : KeepsFans axes before after

module _ (axes : List Axis) (o : Option CellBox) (b : CellBox) (is : o ≡ Some b) (grid : AreAxes axes) (ordered : IsBox axes o) where
  pub box_below : b.last - b.first < cells_of axes
  box_below = distance_below axes b grid (is_moved axes o b is grid ordered)

  pub is_added : (before : List ℕ) (cells : ℕ) → b.last - b.first < length before → AreShapes axes before → 1 ≤ cells → cells ≡ length (cells_between axes b.first b.last) → IsAdded axes before (set before (b.last - b.first) cells) b
  is_added before cells within shapes some count =
      let moved = is_moved axes o b is grid ordered in
      record {
        counted = counted_here axes before (b.last - b.first) cells within moved.shape some (count ∙ as_many axes b moved);
        kept = keeps_fans axes before (b.last - b.first) cells within moved.shape some (count ∙ as_many axes b moved) shapes;
      }

-- ---- the shapes that a loop over the boxes has counted

pub record FansSoFar (axes : List Axis) (boxes : List (Option CellBox)) (n : ℕ) (fans : List ℕ) (edges : ℕ) : Type 0 where
  pub distances : length fans ≤ cells_of axes
  pub shapes : AreShapes axes fans
  pub counted : (k : ℕ) → k < n → IfSome (get_or boxes k None) (λ (b : CellBox). IsCounted axes fans (b.last - b.first))
  pub edges_so_far : edges ≡ edges_of axes (take n boxes)
  pub few : sum fans ≤ edges

pub kept_for : (axes : List Axis) (before after : List ℕ) (o : Option CellBox) → KeepsFans axes before after →
    IfSome o (λ (b : CellBox). IsCounted axes before (b.last - b.first)) → IfSome o (λ (b : CellBox). IsCounted axes after (b.last - b.first))
kept_for axes before after None keep h = tt
kept_for axes before after (Some b) keep h = keep.kept (b.last - b.first) h

pub fans_more : (axes : List Axis) (boxes : List (Option CellBox)) (n : ℕ) (before after : List ℕ) (edges cells : ℕ) → n < length boxes → FansSoFar axes boxes n before edges →
    length after ≤ cells_of axes → KeepsFans axes before after → IfSome (get_or boxes n None) (λ (b : CellBox). IsCounted axes after (b.last - b.first)) →
    cells ≡ length (cells_in axes (get_or boxes n None)) → sum after ≤ sum before + cells → FansSoFar axes boxes (n + 1) after (edges + cells)
fans_more axes boxes n before after edges cells below h most keep counted count few = record {
  distances = most;
  shapes = keep.shapes;
  counted = λ k lt. by_cell k n
      (λ same. subst (λ (j : ℕ). IfSome (get_or boxes j None) (λ (b : CellBox). IsCounted axes after (b.last - b.first))) (sym same) counted)
      (λ other. kept_for axes before after (get_or boxes k None) keep (h.counted k (omega (arith, lt, other))));
  edges_so_far = omega (arith, h.edges_so_far, count, sum_by_more (λ b. length (cells_in axes b)) boxes n None below);
  few = omega (arith, few, h.few);
}

-- a shape that is counted has a count
pub counted_within : (axes : List Axis) (fans : List ℕ) (k : ℕ) → IsCounted axes fans k → k < length fans
counted_within axes fans k h = elim (cases_lt k (length fans)) [
  | inl within ↦ within
  | inr past ↦ absurd (omega (arith, get_or_past fans k 0 past, h.some))
]

-- the count for a shape is that for the boxes that have it
has_fan : (axes : List Axis) (fans : List ℕ) (o : Option CellBox) → AreAxes axes → IsBox axes o →
    IfSome o (λ (b : CellBox). IsCounted axes fans (b.last - b.first)) → FanIsKnown axes fans o
has_fan axes fans None grid ordered counted = tt
has_fan axes fans (Some b) grid ordered counted =
    let moved = boxes_are_shifted_shapes axes b.first b.last grid ordered in
    record { ordered = moved.ordered; within = counted_within axes fans (b.last - b.first) counted; some = counted.some; cells = counted.cells ∙ sym (as_many axes b moved) }

pub fans_all : (axes : List Axis) (boxes : List (Option CellBox)) (n : ℕ) (fans : List ℕ) (edges : ℕ) → AreAxes axes → All (IsBox axes) boxes →
    length boxes ≤ n → FansSoFar axes boxes n fans edges → AreFansOf axes boxes fans
fans_all axes boxes n fans edges grid ordered whole h = record {
  distances = h.distances;
  shapes = h.shapes;
  each = λ k d lt.
      subst (FanIsKnown axes fans) (get_or_default boxes k None d lt)
      (has_fan axes fans (get_or boxes k None) grid (ordered k None lt) (h.counted k (omega (arith, lt, whole))));
  few = omega (arith, h.few, h.edges_so_far, ap (edges_of axes) (take_all n boxes whole));
}
