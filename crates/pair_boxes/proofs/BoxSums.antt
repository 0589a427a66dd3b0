-- Boxes as sums of terms.
use Rattle.std.proofs.Common.{◌≡◌, ℕ, ◌+◌, ◌*◌, ◌/◌, ◌^◌, ◌<◌, ◌≤◌, List, [], Option, None, Some, drop, length, get_or, refl, sym, ap, ap₂, subst, ◌∙◌, arith}
use Rattle.std.specs.Prelude.{ℤ, ◌≤ℤ◌, IfSome}
use Rattle.std.proofs.Math.Nat.{mul_assoc, mul_comm, add-mul}
use Rattle.std.proofs.lemmas.List.{length-map, drop_more, drop_all}
use Rattle.std.proofs.lemmas.Nat.{div-mul-add, mul-le}
use Rattle.grid_quantiser.specs.declared.axis.Axis.{Axis}
use Rattle.grid_quantiser.specs.declared.boxes.CellBox.{CellBox}
use Rattle.grid_quantiser.specs.declared.extents.Extent.{Extent}
use Rattle.grid_quantiser.specs.Axes.{no_axis, cells_of}
use Rattle.grid_quantiser.specs.ExtentBoxes.{one_cell, with_extent}
use Rattle.grid_quantiser.specs.Extents.{IsExtentOf}
use Rattle.grid_quantiser.proofs.Suffixes.{cells_of-drop}
use Rattle.plant_record.specs.Description.{Description, axis_of, axes_of}
use Rattle.plant_record.specs.Limits.{IsWithinLimits}
use Rattle.plant_record.specs.Soundness.{IsSound}
use Rattle.plant_record.proofs.lemmas.SoundPlants.{sound as sound_plant}
use Rattle.successor_box.specs.SuccessorBoxes.{IsBoxOf, low_corner, high_corner}
use Rattle.successor_box.proofs.Below.{boxes_grow_by_extents}
use Rattle.successor_box.proofs.Middles.{axis_at}
use Rattle.successor_box.proofs.PairExtents.{box_more, box_on_all}
use Rattle.pair_box.specs.Sums.{term, plus}
use Rattle.pair_boxes.specs.inside.TermSums.{enlarged}
use Rattle.pair_boxes.specs.inside.Terms.{stride_of, IsTermAt, IsSumAlong}
use Rattle.pair_boxes.proofs.RelativeExtents.{extent_ordered}

abbrev box : ℕ → ℕ → Option CellBox
box first last = Some (record { first = first; last = last })

-- ---- sums

plus_base : (base x rest : Option CellBox) → plus (plus base x) rest ≡ plus (plus base rest) x
plus_base None x rest = refl
plus_base (Some a) None None = refl
plus_base (Some a) None (Some c) = refl
plus_base (Some a) (Some b) None = refl
plus_base (Some a) (Some b) (Some c) =
    ap₂ box (let e : a.first + b.first + c.first ≡ a.first + c.first + b.first = omega arith in e) (let e : a.last + b.last + c.last ≡ a.last + c.last + b.last = omega arith in e)

plus_rest : (base x rest : Option CellBox) → plus base (plus rest x) ≡ plus (plus base rest) x
plus_rest None x rest = refl
plus_rest (Some a) x None = refl
plus_rest (Some a) None (Some c) = refl
plus_rest (Some a) (Some b) (Some c) =
    ap₂ box (let e : a.first + (c.first + b.first) ≡ a.first + c.first + b.first = omega arith in e) (let e : a.last + (c.last + b.last) ≡ a.last + c.last + b.last = omega arith in e)

-- an extent makes a larger box by its term
enlarged_more : (a : Axis) (n m : ℕ) (b : Option CellBox) (extent : Option Extent) → n ≡ a.count * m → plus (enlarged n b) (term m extent) ≡ enlarged m (with_extent a b extent)
enlarged_more a n m None extent is = refl
enlarged_more a n m (Some b) None is = refl
enlarged_more a n m (Some b) (Some s) is = ap₂ box (end b.first s.first) (end b.last s.last)
  where
    end : (x y : ℕ) → x * n + y * m ≡ (x * a.count + y) * m
    end x y = omega (arith, add-mul (x * a.count) y m, mul_assoc x a.count m, ap (λ (k : ℕ). x * k) is)

enlarged_once : (b : Option CellBox) → enlarged 1 b ≡ b
enlarged_once None = refl
enlarged_once (Some b) = ap₂ box (let e : b.first * 1 ≡ b.first = omega arith in e) (let e : b.last * 1 ≡ b.last = omega arith in e)

-- ---- bounds

-- the last cell of a box is at most this
abbrev pub EndsBy : ℕ → Option CellBox → Type 0
EndsBy n b = IfSome b (λ (b : CellBox). b.last ≤ n)

ends_later : (n m : ℕ) (b : Option CellBox) → n ≤ m → EndsBy n b → EndsBy m b
ends_later n m None le by = tt
ends_later n m (Some b) le by = omega (arith, le, by)

plus_ends : (n m : ℕ) (a b : Option CellBox) → EndsBy n a → EndsBy m b → EndsBy (n + m) (plus a b)
plus_ends n m None b by_n by_m = tt
plus_ends n m (Some a) None by_n by_m = tt
plus_ends n m (Some a) (Some b) by_n by_m = omega (arith, by_n, by_m)

-- it is below the limit of sums
abbrev pub Fits28 : Option CellBox → Type 0
Fits28 b = IfSome b (λ (b : CellBox). b.last < 2 ^ 28)

ends_fit : (i : ℕ) (b : Option CellBox) → i ≤ 7 → EndsBy (i * 2 ^ 20) b → Fits28 b
ends_fit i None few by = tt
ends_fit i (Some b) few by = omega (arith, few, by)

term_ends : (m count cells : ℕ) (extent : Option Extent) → count * m ≤ cells → IfSome extent (λ (s : Extent). (s.first < count) × (s.last < count)) → EndsBy cells (term m extent)
term_ends m count cells None le below = tt
term_ends m count cells (Some s) le below = omega (arith, le, mul-le s.last m count m (omega (arith, below.1)) (omega arith))

-- ---- the sums of a plant

module _ (p : Description) (limits : IsWithinLimits p) (i : ℕ) (lt : i < length p.equations) where
  sound : IsSound p
  sound = sound_plant p limits.plant

  abbrev axis : Axis
  axis = get_or (axes_of p) i no_axis

  axis_within : i < length (axes_of p)
  axis_within = omega (arith, lt, sound.one_each, length-map p.states axis_of)

  stride_step : cells_of (drop i (axes_of p)) ≡ axis.count * stride_of p i
  stride_step = ap cells_of (drop_more (axes_of p) i no_axis axis_within)

  stride_few : axis.count * stride_of p i ≤ cells_of (axes_of p)
  stride_few = omega (arith, stride_step, cells_of-drop i (axes_of p) sound.axes.each)

  -- the later axes make a cell
  pub stride_next : (n count : ℕ) → n ≡ cells_of (drop i (axes_of p)) → count ≡ axis.count → n / count ≡ stride_of p i
  stride_next n count is count_is =
      let some : 0 < count = omega (arith, count_is, (axis_at p sound i (omega (arith, lt, sound.one_each))).some_cell) in
      let whole : n ≡ stride_of p i * count + 0 = omega (arith, is, stride_step, mul_comm axis.count (stride_of p i), ap (λ (k : ℕ). stride_of p i * k) count_is) in
      ap (λ (k : ℕ). k / count) whole ∙ div-mul-add (stride_of p i) count 0 some

  -- the term of an extent fits
  pub extent_term_fits : (stride : ℕ) (extent : Option Extent) (low high : ℤ) → stride ≡ stride_of p i → low ≤ℤ high → IsExtentOf axis low high extent →
      IfSome extent (λ (s : Extent). (s.first ≤ s.last) × (s.last * stride < 2 ^ 28))
  extent_term_fits stride extent low high is order of = by extent (extent_ordered axis low high extent (axis_at p sound i (omega (arith, lt, sound.one_each))) order of) of.on_axis
    where
      by : (extent : Option Extent) → IfSome extent (λ (s : Extent). s.first ≤ s.last) → IfSome extent (λ (s : Extent). (s.first < axis.count) × (s.last < axis.count)) → IfSome extent (λ (s : Extent). (s.first ≤ s.last) × (s.last * stride < 2 ^ 28))
      by None ordered below = tt
      by (Some s) ordered below =
          (ordered, omega (arith, limits.cells, stride_few, mul-le s.last (stride_of p i) axis.count (stride_of p i) (omega (arith, below.1)) (omega arith), ap (λ (k : ℕ). s.last * k) is))

  module _ (c u : ℕ) (x : Option CellBox) (is : IsTermAt p c u i x) where
    term_few : EndsBy (2 ^ 20) x
    term_few = ends_later (cells_of (axes_of p)) (2 ^ 20) x limits.cells (subst (EndsBy (cells_of (axes_of p))) (sym is.2) (term_ends (stride_of p i) axis.count (cells_of (axes_of p)) is.0 stride_few is.1.on_axis))

    pub term_fits : Fits28 x
    term_fits = ends_fit 1 x (omega arith) term_few

    module _ (base rest : Option CellBox) (so_far : IsSumAlong p i c u base rest) where
      more : plus (plus base rest) x ≡ enlarged (stride_of p i) (with_extent axis so_far.found is.0)
      more = ap₂ plus so_far.sum is.2 ∙ enlarged_more axis (cells_of (drop i (axes_of p))) (stride_of p i) so_far.found is.0 stride_step

      later : (b : Option CellBox) → EndsBy (i * 2 ^ 20) b → EndsBy ((i + 1) * 2 ^ 20) b
      later b by = ends_later (i * 2 ^ 20) ((i + 1) * 2 ^ 20) b (omega arith) by

      with_term : (b : Option CellBox) → EndsBy (i * 2 ^ 20) b → EndsBy ((i + 1) * 2 ^ 20) (plus b x)
      with_term b by = ends_later (i * 2 ^ 20 + 2 ^ 20) ((i + 1) * 2 ^ 20) (plus b x) (omega arith) (plus_ends (i * 2 ^ 20) (2 ^ 20) b x by term_few)

      -- the term is added to the one
      pub base_more : IsSumAlong p (i + 1) c u (plus base x) rest
      base_more = record {
        found = with_extent axis so_far.found is.0;
        along = box_more p i c u so_far.found is.0 sound lt so_far.along is.1;
        sum = plus_base base x rest ∙ more;
        base_few = with_term base so_far.base_few;
        rest_few = later rest so_far.rest_few;
      }

      -- or to the other
      pub rest_more : IsSumAlong p (i + 1) c u base (plus rest x)
      rest_more = record {
        found = with_extent axis so_far.found is.0;
        along = box_more p i c u so_far.found is.0 sound lt so_far.along is.1;
        sum = plus_rest base x rest ∙ more;
        base_few = later base so_far.base_few;
        rest_few = with_term rest so_far.rest_few;
      }

-- the sums on the axes of some states fit
pub sums_fit : (p : Description) (limits : IsWithinLimits p) (i c u : ℕ) (base rest : Option CellBox) → i ≤ length p.equations → IsSumAlong p i c u base rest → Fits28 base × Fits28 rest
sums_fit p limits i c u base rest le so_far =
    let few : i ≤ 7 = omega (arith, le, limits.plant.one_each, limits.plant.states_bound) in
    (ends_fit i base few so_far.base_few, ends_fit i rest few so_far.rest_few)

-- the sum on no axis
pub sum_start : (p : Description) (c u : ℕ) → IsSumAlong p 0 c u one_cell one_cell
sum_start p c u = record {
  found = one_cell;
  along = boxes_grow_by_extents.start (low_corner p c u) (high_corner p c u);
  sum = ap₂ box (let e : 0 + 0 ≡ 0 * cells_of (axes_of p) = omega arith in e) (let e : 0 + 0 ≡ 0 * cells_of (axes_of p) = omega arith in e);
  base_few = let e : 0 ≤ 0 * 2 ^ 20 = omega arith in e;
  rest_few = let e : 0 ≤ 0 * 2 ^ 20 = omega arith in e;
}

-- the sum on all axes
pub sum_all : (p : Description) (c u : ℕ) (base rest : Option CellBox) → IsSound p → IsSumAlong p (length p.equations) c u base rest → IsBoxOf p c u (plus base rest)
sum_all p c u base rest sound so_far =
    let none : drop (length p.equations) (axes_of p) ≡ [] = drop_all (length p.equations) (axes_of p) (omega (arith, sound.one_each, length-map p.states axis_of)) in
    subst (IsBoxOf p c u) (sym (so_far.sum ∙ ap (λ (axes : List Axis). enlarged (cells_of axes) so_far.found) none ∙ enlarged_once so_far.found)) (box_on_all p c u so_far.found sound so_far.along)
