-- The ranges of the variables over cells in lanes, and the spans over them.
use Rattle.std.proofs.Common.{◌≡◌, ℕ, zero, suc, ◌^◌, ◌<◌, ◌≤◌, Some, List, [], ◌∷◌, All, length, map, take, get_or, refl, sym, ap, ap₂, subst, subst₂, ◌∙◌, w64, arith}
use Rattle.std.specs.Prelude.{ℤ, pos, nat_abs, ◌+ℤ◌, FitsSigned, slice_get}
use Rattle.std.proofs.lemmas.Int.{ints}
use Rattle.std.proofs.lemmas.List.{length-map, length-take-le, get_or-map, get_or-take, ext_get_or}
use Rattle.std.proofs.lemmas.List.Elements.{All-append, All-map, All-weaker, All-from_get_or}
use Rattle.std.proofs.lemmas.Option.{get_or_from_slice_get}
use Rattle.fixed_expr.specs.declared.expr.Expr.{Expr}
use Rattle.fixed_expr.specs.Expression.{NumExpr, expression_of}
use Rattle.expr_lanes.specs.declared.lane_eval.ValuesAlong.{ValuesAlong}
use Rattle.fixed_expr.specs.declared.lanes.TheConstants.{LANES}
use Rattle.expr_lanes.specs.LaneEval.{lane_of}
use Rattle.fixed_expr.specs.NarrowValues.{IsNarrow}
use Rattle.fixed_expr.specs.Value.{IsWellFormed, value_of}
use Rattle.interval_eval.specs.declared.interval.Interval.{Interval}
use Rattle.interval_eval.specs.declared.columns.IntervalColumn.{IntervalColumn}
use Rattle.interval_eval.specs.LaneSpans.{interval_in, area_in}
use Rattle.interval_eval.specs.Span.{IsIn, AreIn, IsInterval, SpanStaysInRange}
use Rattle.interval_eval.specs.NestedAreas.{IsPartOf, ArePartsOf}
use Rattle.interval_eval.proofs.SpanLaws.{nested_spans_stay_in_range}
use Rattle.grid_quantiser.specs.Axes.{cells_of}
use Rattle.plant_record.specs.declared.variables.StateVariable.{StateVariable}
use Rattle.plant_record.specs.declared.variables.NoiseVariable.{NoiseVariable}
use Rattle.plant_record.specs.Description.{Description, axes_of, vectors_of, vector_of}
use Rattle.plant_record.specs.Plants.{IsPlant}
use Rattle.plant_record.specs.Soundness.{IsSound}
use Rattle.plant_record.specs.Steps.{equation_at}
use Rattle.plant_record.specs.Variables.{IsStateVariable, IsNoiseVariable}
use Rattle.successor_box.specs.SuccessorBoxes.{area_of, cell_area_of, central_values}
use Rattle.successor_box.specs.Deviations.{HasNoOverflow}
use Rattle.successor_box.specs.inside.Area.{no_range, variables_of, offsets_of, shifted_to}
use Rattle.successor_box.specs.inside.Lines.{no_column, HoldsInLanes, AreValuesUnder, value_at}
use Rattle.successor_box.proofs.CellAreas.{cell_area_count, cell_intervals, cell_parts, cell_central_in}
use Rattle.successor_box.proofs.CellOffsets.{cell_area_long, cell_range}
use Rattle.successor_box.proofs.InputNumbers.{value_literal}
use Rattle.successor_box.proofs.Steps.{formed_over}

-- ---- numbers of at most 18 digits

abbrev HasShortEnds : Interval → Type 0
HasShortEnds i = (nat_abs i.lo < 10 ^ 18) × (nat_abs i.hi < 10 ^ 18)

area_short : (p : Description) (u : ℕ) → IsPlant p → All HasShortEnds (area_of p u)
area_short p u plant =
    All-append HasShortEnds _ _
    (All-append HasShortEnds _ _
    (All-map HasShortEnds (λ (s : StateVariable). record { lo = s.low; hi = s.high }) p.states (All-weaker IsStateVariable (λ s. HasShortEnds (record { lo = s.low; hi = s.high })) (λ s h. (h.low, h.high)) p.states plant.states))
    (All-map HasShortEnds (λ v. record { lo = v; hi = v }) (vector_of p.inputs u) (All-from_get_or (λ v. HasShortEnds (record { lo = v; hi = v })) (vector_of p.inputs u) (pos 0) (λ k lt. (value_literal p.inputs u k plant.inputs, value_literal p.inputs u k plant.inputs)))))
    (All-map HasShortEnds (λ (w : NoiseVariable). record { lo = w.low; hi = w.high }) p.noises (All-weaker IsNoiseVariable (λ w. HasShortEnds (record { lo = w.low; hi = w.high })) (λ w h. (h.low, h.high)) p.noises plant.noises))

parts_short : (area wider : List Interval) → ArePartsOf area wider → All IsInterval area → All HasShortEnds wider → (k : ℕ) (d : Interval) → k < length area → HasShortEnds (get_or area k d)
parts_short [] wider parts each short k d lt = absurd (omega (arith, lt))
parts_short (i ∷ area) [] parts each short k d lt = absurd parts
parts_short (i ∷ area) (j ∷ wider) parts each short zero d lt = one i j parts.0 (each 0 d (omega arith)) (short 0 d (omega arith))
  where
    one : (i j : Interval) → IsPartOf i j → IsInterval i → HasShortEnds j → HasShortEnds i
    one i j part order ends = (omega (arith, ints, part.0, part.1, order, ends.0, ends.1), omega (arith, ints, part.0, part.1, order, ends.0, ends.1))
parts_short (i ∷ area) (j ∷ wider) parts each short (suc k) d lt =
    parts_short area wider parts.1 (λ n e within. each (suc n) e (omega (arith, within))) (λ n e within. short (suc n) e (omega (arith, within))) k d (omega (arith, lt))

held_at : (area : List Interval) (values : List ℤ) (k : ℕ) (d : Interval) → AreIn area values → k < length area → IsIn (get_or area k d) (get_or values k (pos 0))
held_at [] values k d inside lt = absurd (omega (arith, lt))
held_at (i ∷ area) [] k d inside lt = absurd inside
held_at (i ∷ area) (x ∷ values) zero d inside lt = inside.0
held_at (i ∷ area) (x ∷ values) (suc k) d inside lt = held_at area values k d inside.1 (omega (arith, lt))

-- The range of a variable over a cell, from its value at the centre: all has room in 64 bits.
pub record IsNarrowRange (x : ℤ) (offset range : Interval) : Type 0 where
  pub is : range ≡ shifted_to x offset
  pub low_offset : FitsSigned w64 offset.lo
  pub high_offset : FitsSigned w64 offset.hi
  pub low : IsNarrow (x +ℤ offset.lo)
  pub high : IsNarrow (x +ℤ offset.hi)

narrow_range : (x : ℤ) (offset range : Interval) → range ≡ shifted_to x offset → HasShortEnds range → IsIn range x → IsNarrowRange x offset range
narrow_range x offset range is short inside =
    let ends : HasShortEnds (shifted_to x offset) = subst HasShortEnds is short in
    let held : IsIn (shifted_to x offset) x = subst (λ (r : Interval). IsIn r x) is inside in
    record {
      is = is;
      low_offset = omega (arith, ints, ends.0, ends.1, held.0, held.1);
      high_offset = omega (arith, ints, ends.0, ends.1, held.0, held.1);
      low = (omega (arith, ints, ends.0), omega (arith, ints, ends.0));
      high = (omega (arith, ints, ends.1), omega (arith, ints, ends.1));
    }

module _ (p : Description) (c u : ℕ) (sound : IsSound p) (cell : c < cells_of (axes_of p)) where
  range_from : IsPlant p → (k : ℕ) → k < variables_of p → IsNarrowRange (get_or (central_values p c u) k (pos 0)) (get_or (offsets_of p u) k no_range) (get_or (cell_area_of p c u) k no_range)
  range_from plant k lt =
      let within : k < length (cell_area_of p c u) = omega (arith, lt, cell_area_long p c u) in
      narrow_range (get_or (central_values p c u) k (pos 0)) (get_or (offsets_of p u) k no_range) (get_or (cell_area_of p c u) k no_range) (cell_range p c u k lt)
      (parts_short (cell_area_of p c u) (area_of p u) (cell_parts p c u sound cell) (cell_intervals p c u sound) (area_short p u plant) k no_range within)
      (held_at (cell_area_of p c u) (central_values p c u) k no_range (cell_central_in p c u sound) within)

  -- no node's span over the cell leaves the range
  pub cell_stays : HasNoOverflow p → u < vectors_of p.inputs → (i : ℕ) → i < length p.equations → SpanStaysInRange (equation_at p i) (cell_area_of p c u)
  cell_stays fits input i lt =
      nested_spans_stay_in_range (equation_at p i) (cell_area_of p c u) (area_of p u) (formed_over p u sound i (NumExpr (pos 0)) lt) (cell_intervals p c u sound) (cell_parts p c u sound cell) (fits i u lt input).span

-- the range in a lane, from the values of the variable in the lanes
pub range_in : (p : Description) (cell : ℕ → ℕ) (u lane k : ℕ) (at : ValuesAlong) (centres : List ℤ) (offset : Interval) → IsPlant p → IsSound p → k < variables_of p → lane < LANES → AreValuesUnder p cell u at
    → HoldsInLanes (pos 0) (λ j. get_or (lane_of at j) k (pos 0)) centres → offset ≡ get_or (offsets_of p u) k no_range → IsNarrowRange (get_or centres lane (pos 0)) offset (get_or (cell_area_of p (cell lane) u) k no_range)
range_in p cell u lane k at centres offset plant sound lt below are found is =
    let value = found lane below ∙ ap (λ (values : List ℤ). get_or values k (pos 0)) (are.each lane below) in
    subst₂ (λ (z : ℤ) (o : Interval). IsNarrowRange z o (get_or (cell_area_of p (cell lane) u) k no_range)) (sym value) (sym is) (range_from p (cell lane) u sound (are.cells lane below) plant k lt)

-- the equation of a state, which is well-formed over as many values as there are variables
module _ (p : Description) (i : ℕ) (e : Expr) where
  pub equation_is : slice_get p.equations i ≡ Some (expression_of e) → expression_of e ≡ equation_at p i
  equation_is found = sym (get_or_from_slice_get p.equations i (expression_of e) (NumExpr (pos 0)) found)

  -- its value in a lane
  pub value_in : (cell : ℕ → ℕ) (u lane : ℕ) (at : ValuesAlong) → slice_get p.equations i ≡ Some (expression_of e) → AreValuesUnder p cell u at → lane < LANES → value_of (expression_of e) (lane_of at lane) ≡ value_at p i (cell lane) u
  value_in cell u lane at found are lt = ap₂ value_of (equation_is found) (are.each lane lt)

  pub formed_at : (n : ℕ) → IsSound p → i < length p.equations → slice_get p.equations i ≡ Some (expression_of e) → n ≡ variables_of p → IsWellFormed (expression_of e) n
  formed_at n sound lt found all = rw (equation_is found, all ∙ sym (cell_area_long p 0 0) ∙ cell_area_count p 0 0) (sound.formed i (NumExpr (pos 0)) lt)

-- so many are at most 15
pub few_variables : (p : Description) (n : ℕ) → IsPlant p → n ≡ variables_of p → n ≤ 15
few_variables p n plant all = omega (arith, all, plant.states_bound, plant.inputs_bound, plant.noises_bound)

-- a lane of columns that hold the ranges
pub area_lane_is : (p : Description) (c u : ℕ) (columns : List IntervalColumn) (n lane : ℕ) → n ≡ variables_of p → n ≤ length columns → ((k : ℕ) → k < variables_of p → interval_in (get_or columns k no_column) lane ≡ get_or (cell_area_of p c u) k no_range) → area_in (take n columns) lane ≡ cell_area_of p c u
area_lane_is p c u columns n lane all within each =
    let at : IntervalColumn → Interval = λ (column : IntervalColumn). interval_in column lane in
    let front : length (take n columns) ≡ n = length-take-le n columns within in
    let long : length (map at (take n columns)) ≡ length (cell_area_of p c u) = length-map (take n columns) at ∙ front ∙ all ∙ sym (cell_area_long p c u) in
    ext_get_or no_range (map at (take n columns)) (cell_area_of p c u) long (λ k lt.
    let below : k < n = omega (arith, lt, length-map (take n columns) at, front) in
    get_or-map at (take n columns) k no_column no_range (omega (arith, below, front)) ∙ ap_at at columns n k below ∙ each k (omega (arith, below, all)))
  where
    ap_at : (at : IntervalColumn → Interval) (columns : List IntervalColumn) (n k : ℕ) → k < n → at (get_or (take n columns) k no_column) ≡ at (get_or columns k no_column)
    ap_at at columns n k below = subst (λ (column : IntervalColumn). at (get_or (take n columns) k no_column) ≡ at column) (get_or-take n columns k no_column below) refl
