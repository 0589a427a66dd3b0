-- The ends of a successor box along the axis of a state.
use Rattle.std.proofs.Common.{◌≡◌, ℕ, ◌^◌, ◌<◌, List, [], length, get_or, sym, ap, ap₂, subst, subst₂, ◌∙◌, Option, arith}
use Rattle.std.specs.Prelude.{ℤ, pos, nat_abs, ◌+ℤ◌, ◌-ℤ◌, ◌*ℤ◌, ◌≤ℤ◌, FitsSigned}
use Rattle.std.specs.Int.{w128}
use Rattle.std.proofs.lemmas.Int.{ints}
use Rattle.std.proofs.lemmas.List.{get_or-map}
use Rattle.fixed_expr.specs.Range.{IsInRange}
use Rattle.fixed_expr.specs.Expression.{NumExpr}
use Rattle.fixed_expr.specs.Value.{value_of}
use Rattle.interval_eval.specs.declared.interval.Interval.{Interval}
use Rattle.interval_eval.specs.Span.{IsInterval}
use Rattle.grid_quantiser.specs.declared.axis.Axis.{Axis}
use Rattle.grid_quantiser.specs.declared.extents.Extent.{Extent}
use Rattle.grid_quantiser.specs.Axes.{no_axis, cells_of}
use Rattle.grid_quantiser.specs.Extents.{IsExtentOf, extended_axis, IsExtentBefore}
use Rattle.plant_record.specs.Description.{Description, axes_of, vectors_of}
use Rattle.plant_record.specs.Soundness.{IsSound}
use Rattle.plant_record.specs.declared.version.PlantVersion.{PlantVersion}
use Rattle.plant_record.specs.declared.version.PlantVersion.TheVariants.{One}
use Rattle.successor_box.specs.PairExtents.{IsExtentBeforeAt}
use Rattle.successor_box.specs.SuccessorBoxes.{deviation_at, central_values, growth_of, next_interval_of, low_corner, high_corner}
use Rattle.plant_record.specs.Steps.{equation_at}
use Rattle.successor_box.specs.Deviations.{HasNoOverflow, deviations_of}
use Rattle.successor_box.proofs.DeviationLanes.{entry_is}
use Rattle.successor_box.proofs.Centres.{ends_fit}
use Rattle.successor_box.proofs.Enabled.{next_interval_ordered}

-- one number of each corner
pub low_is : (p : Description) (c u i : ℕ) → i < length p.equations → get_or (low_corner p c u) i (pos 0) ≡ (next_interval_of p.version p c u (equation_at p i)).lo
low_is p c u i lt = get_or-map (λ e. (next_interval_of p.version p c u e).lo) p.equations i (NumExpr (pos 0)) (pos 0) lt

pub high_is : (p : Description) (c u i : ℕ) → i < length p.equations → get_or (high_corner p c u) i (pos 0) ≡ (next_interval_of p.version p c u (equation_at p i)).hi
high_is p c u i lt = get_or-map (λ e. (next_interval_of p.version p c u e).hi) p.equations i (NumExpr (pos 0)) (pos 0) lt

pub ends_ordered : (p : Description) (c u i : ℕ) → IsSound p → i < length p.equations → get_or (low_corner p c u) i (pos 0) ≤ℤ get_or (high_corner p c u) i (pos 0)
ends_ordered p c u i sound lt = by _ _ (next_interval_of p.version p c u (equation_at p i)) (low_is p c u i lt) (high_is p c u i lt) (next_interval_ordered p c u sound (equation_at p i) (sound.formed i (NumExpr (pos 0)) lt))
  where
    by : (x y : ℤ) (i : Interval) → x ≡ i.lo → y ≡ i.hi → IsInterval i → x ≤ℤ y
    by x y i low high order = omega (arith, ints, low, high, order)

-- an extent that isn't shifted
pub unshifted : (a : Axis) (low high : ℤ) (extent : Option Extent) → IsExtentOf (extended_axis a) low high extent → IsExtentBefore a 0 low high extent
unshifted a low high extent is =
    let same : (x : ℤ) → x ≡ x -ℤ (a.width *ℤ pos 0) = λ x. omega (arith, ints) in
    subst₂ (λ (x y : ℤ). IsExtentOf (extended_axis a) x y extent) (same low) (same high) is

-- the extent between the ends of where an equation leads
pub extent_of_next : (p : Description) (c u i : ℕ) (next_interval : Interval) (extent : Option Extent) → i < length p.equations → next_interval ≡ next_interval_of p.version p c u (equation_at p i)
    → IsExtentOf (extended_axis (get_or (axes_of p) i no_axis)) next_interval.lo next_interval.hi extent → IsExtentBeforeAt p c u i 0 extent
extent_of_next p c u i next_interval extent lt is found =
    let low : next_interval.lo ≡ get_or (low_corner p c u) i (pos 0) = ap (λ (r : Interval). r.lo) is ∙ sym (low_is p c u i lt) in
    let high : next_interval.hi ≡ get_or (high_corner p c u) i (pos 0) = ap (λ (r : Interval). r.hi) is ∙ sym (high_is p c u i lt) in
    subst₂ (λ (low high : ℤ). IsExtentBefore (get_or (axes_of p) i no_axis) 0 low high extent) low high (unshifted (get_or (axes_of p) i no_axis) next_interval.lo next_interval.hi extent found)

-- the same in version 1, around the value at the centre
pub extent_of_growth : (p : Description) (c u i : ℕ) (value deviation : ℤ) (extent : Option Extent) → i < length p.equations → p.version ≡ One
    → value ≡ value_of (equation_at p i) (central_values p c u) → deviation ≡ deviation_at p u (equation_at p i)
    → IsExtentOf (extended_axis (get_or (axes_of p) i no_axis)) (value -ℤ deviation) (value +ℤ deviation) extent → IsExtentBeforeAt p c u i 0 extent
extent_of_growth p c u i value deviation extent lt version at by found =
    let e = equation_at p i in
    let next_interval : Interval = record { lo = value -ℤ deviation; hi = value +ℤ deviation } in
    let growth : next_interval ≡ growth_of p c u e = ap₂ (λ (x d : ℤ). record { lo = x -ℤ d; hi = x +ℤ d }) at by in
    extent_of_next p c u i next_interval extent lt (growth ∙ sym (ap (λ (v : PlantVersion). next_interval_of v p c u e) version)) found

-- a deviation is no less than 0
pub deviation_some : (p : Description) (u i : ℕ) (deviation : ℤ) → deviation ≡ deviation_at p u (equation_at p i) → pos 0 ≤ℤ deviation
deviation_some p u i deviation is = omega (arith, ints, is)

-- a number of the centre's step fits, less and plus the deviation
pub record AreExtentEnds (p : Description) (u i : ℕ) (value deviation : ℤ) : Type 0 where
  pub moves_by : deviation ≡ deviation_at p u (equation_at p i)
  pub low_fits : FitsSigned w128 (value -ℤ deviation)
  pub high_fits : FitsSigned w128 (value +ℤ deviation)

fits_signed : (z : ℤ) → IsInRange z → FitsSigned w128 z
fits_signed z h = let h' : nat_abs z < 2 ^ 127 = h in omega (arith, ints)

pub end_step : (p : Description) → IsSound p → HasNoOverflow p → (c u i : ℕ) → c < cells_of (axes_of p) → u < vectors_of p.inputs → i < length p.equations
    → (value : ℤ) (lanes : List (List ℤ)) (deviation : ℤ) → value ≡ value_of (equation_at p i) (central_values p c u) → lanes ≡ deviations_of p → deviation ≡ get_or (get_or lanes i []) u (pos 0)
    → AreExtentEnds p u i value deviation
end_step p sound fits c u i cell input lt value lanes deviation at lanes-are deviation-is =
    let by : deviation ≡ deviation_at p u (equation_at p i) = deviation-is ∙ ap (λ (r : List (List ℤ)). get_or (get_or r i []) u (pos 0)) lanes-are ∙ entry_is p i lt u input in
    let low : value -ℤ deviation ≡ value_of (equation_at p i) (central_values p c u) -ℤ deviation_at p u (equation_at p i) = ap₂ (λ (x y : ℤ). x -ℤ y) at by in
    let high : value +ℤ deviation ≡ value_of (equation_at p i) (central_values p c u) +ℤ deviation_at p u (equation_at p i) = ap₂ (λ (x y : ℤ). x +ℤ y) at by in
    let ends = ends_fit p sound fits c u i cell input lt in
    record {
      moves_by = by;
      low_fits = fits_signed _ (subst IsInRange (sym low) ends.0);
      high_fits = fits_signed _ (subst IsInRange (sym high) ends.1);
    }
