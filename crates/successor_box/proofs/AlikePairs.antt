-- The extent of a pair along a state's axis depends on its indices in the variables of the state's equation.
use Rattle.std.proofs.Common.{◌≡◌, ◌⊎◌, ℕ, ◌+◌, ◌-◌, ◌<◌, ◌≤◌, List, ◌++◌, map, length, take, get_or, true, false, not, ◌&&◌, eqb, refl, sym, ap, ap₂, subst₂, ◌∙◌, arith, inl, inr}
use Rattle.std.specs.Prelude.{ℤ, pos, ◌-ℤ◌, ◌*ℤ◌, Option}
use Rattle.std.specs.Int.{int_min, int_max}
use Rattle.std.proofs.lemmas.Bool.{cases_lt, cases_Bool, both_ways, and_from, and_left, and_right, not_from_false, ne_eqb, cond_below, cond_above, cond-true, cond-false}
use Rattle.std.proofs.lemmas.Int.{ints, clamps}
use Rattle.std.proofs.lemmas.List.{length-map, length-take-le}
use Rattle.fixed_expr.specs.Expression.{Expression}
use Rattle.fixed_expr.specs.Mentions.{mentions}
use Rattle.fixed_expr.specs.inside.Alike.{AreSameIn, AreSameBut}
use Rattle.fixed_expr.proofs.Laws.{values_depend_on_variables, values_shift_with_variables}
use Rattle.fixed_expr.specs.Value.{value_of}
use Rattle.interval_eval.specs.declared.interval.Interval.{Interval}
use Rattle.interval_eval.specs.Span.{span_of}
use Rattle.interval_eval.specs.inside.Nested.{AreSameRangesBut}
use Rattle.interval_eval.proofs.SpanLaws.{spans_depend_on_variables, spans_shift_with_variables}
use Rattle.growth_bound.proofs.Laws.{deviations_depend_on_variables}
use Rattle.grid_quantiser.specs.declared.axis.Axis.{Axis}
use Rattle.grid_quantiser.specs.declared.extents.Extent.{Extent}
use Rattle.grid_quantiser.specs.Axes.{no_axis, cells_of}
use Rattle.grid_quantiser.specs.Cells.{centre_of, radius_of}
use Rattle.grid_quantiser.specs.Indices.{index_along, middle_of}
use Rattle.grid_quantiser.specs.Extents.{IsExtentOf, extended_axis}
use Rattle.plant_record.specs.declared.variables.StateVariable.{StateVariable}
use Rattle.plant_record.specs.declared.variables.NoiseVariable.{NoiseVariable}
use Rattle.plant_record.specs.Description.{Description, axis_of, axes_of, vectors_of, vector_of}
use Rattle.plant_record.specs.declared.version.PlantVersion.{PlantVersion}
use Rattle.plant_record.specs.declared.version.PlantVersion.TheVariants.{One, Two}
use Rattle.plant_record.specs.ValueIndices.{value_index}
use Rattle.plant_record.proofs.lemmas.ListElements.{in_first, in_third}
use Rattle.plant_record.proofs.lemmas.ValueIndices.{inputs_rest}
use Rattle.plant_record.proofs.lemmas.VariableValues.{vector_length, state_value, input_value}
use Rattle.plant_record.specs.Soundness.{IsSound}
use Rattle.plant_record.specs.Steps.{equation_at}
use Rattle.successor_box.specs.SuccessorBoxes.{noise_centre, area_of, radii_of, deviation_at, central_values, cell_area_of, growth_of, next_interval_of, low_corner, high_corner}
use Rattle.successor_box.specs.PairExtents.{index_in, shifts_along, shifted_by, IsExtentBeforeAt, depends_on, AreAlikeIn}
use Rattle.successor_box.specs.inside.Area.{no_range, offsets_of, shifted_to}
use Rattle.successor_box.proofs.Below.{centres_depend_on_their_indices}
use Rattle.successor_box.proofs.CellOffsets.{cell_range, same_constants, same_offsets, same_cell_range}
use Rattle.successor_box.proofs.Centres.{centre_enough}
use Rattle.successor_box.proofs.Ranges.{input_range}
use Rattle.successor_box.proofs.ExtentEnds.{low_is, high_is}

-- inputs have no radius
same_radii : (p : Description) (u v : ℕ) → radii_of p v ≡ radii_of p u
same_radii p u v =
    ap (λ (zs : List ℤ). map radius_of (axes_of p) ++ zs ++ map (λ (w : NoiseVariable). w.high -ℤ noise_centre w) p.noises)
    (same_constants (pos 0) (vector_of p.inputs v) (vector_of p.inputs u) (vector_length p.inputs v ∙ sym (vector_length p.inputs u)))

-- ---- one central value

module _ (p : Description) where
  abbrev states : ℕ
  states = length p.states

  abbrev centre : ℕ → List ℤ
  centre c = take states (centre_of (axes_of p) c)

  abbrev noises : List ℤ
  noises = take (length p.noises) (map noise_centre p.noises)

  centre_long : (c : ℕ) → length (centre c) ≡ states
  centre_long c = length-take-le states (centre_of (axes_of p) c) (centre_enough p c)

  pub central_state : (c u k : ℕ) → k < states → get_or (central_values p c u) k (pos 0) ≡ get_or (centre_of (axes_of p) c) k (pos 0)
  central_state c u k lt = sym (state_value p (centre_of (axes_of p) c) (map noise_centre p.noises) u k k (centre_enough p c) refl lt)

  -- which is the middle of its index
  pub central_middle : IsSound p → (c u k : ℕ) → c < cells_of (axes_of p) → k < states → get_or (central_values p c u) k (pos 0) ≡ middle_of (get_or (axes_of p) k no_axis) (index_along (axes_of p) k c)
  central_middle sound c u k cell lt = central_state c u k lt ∙ centres_depend_on_their_indices (axes_of p) c k sound.axes cell (omega (arith, lt, length-map p.states axis_of))

  pub central_input : (c u k : ℕ) → states ≤ k → k < states + length p.inputs → get_or (central_values p c u) k (pos 0) ≡ get_or (vector_of p.inputs u) (k - states) (pos 0)
  central_input c u k past lt = sym (input_value p (centre_of (axes_of p) c) (map noise_centre p.noises) u k (k - states) (centre_enough p c) (omega (arith, past)) (omega (arith, past, lt)))

  pub central_noise : (c u k : ℕ) → states + length p.inputs ≤ k → get_or (central_values p c u) k (pos 0) ≡ get_or noises (k - states - length p.inputs) (pos 0)
  central_noise c u k past = in_third (centre c) (vector_of p.inputs u) noises k (k - states - length p.inputs) (pos 0) states (length p.inputs) (centre_long c) (vector_length p.inputs u) (omega (arith, past))

  -- the index of a pair by its kind
  pub state_slot : (c u k : ℕ) → k < states → index_along (axes_of p) k c ≡ index_in p c u k
  state_slot c u k lt = cond_below k states (index_along (axes_of p) k c) (value_index p.inputs (k - states) u) lt

  pub among_slot : (c u k : ℕ) → states ≤ k → value_index p.inputs (k - states) u ≡ index_in p c u k
  among_slot c u k past = cond_above k states (index_along (axes_of p) k c) (value_index p.inputs (k - states) u) (value_index p.inputs (k - states) u) past refl

-- ---- two pairs

module _ (p : Description) (c u d v k : ℕ) where
  abbrev ranges : ℕ → List Interval
  ranges w = map (λ z. record { lo = z; hi = z }) (vector_of p.inputs w)

  abbrev state_ranges : List Interval
  state_ranges = map (λ (s : StateVariable). record { lo = s.low; hi = s.high }) p.states

  abbrev noise_ranges : List Interval
  noise_ranges = map (λ (w : NoiseVariable). record { lo = w.low; hi = w.high }) p.noises

  ranges_count : (w : ℕ) → length (ranges w) ≡ length p.inputs
  ranges_count w = length-map (vector_of p.inputs w) _ ∙ vector_length p.inputs w

  states_count : length state_ranges ≡ length p.states
  states_count = length-map p.states _

  -- a state has its range, and another variable that has the same central value has the same range
  same_range : (length p.states ≤ k → get_or (central_values p d v) k (pos 0) ≡ get_or (central_values p c u) k (pos 0)) → get_or (area_of p v) k no_range ≡ get_or (area_of p u) k no_range
  same_range same =
      elim (cases_lt k (length p.states)) [
        | inl state ↦
            let lt : k < length state_ranges = omega (arith, state, states_count) in
            in_first state_ranges (ranges v) noise_ranges k k no_range refl lt ∙ sym (in_first state_ranges (ranges u) noise_ranges k k no_range refl lt)
        | inr past ↦
            elim (cases_lt k (length p.states + length p.inputs)) [
              | inl input ↦
                  let value = sym (central_input p d v k past input) ∙ same past ∙ central_input p c u k past input in
                  let i : ℕ = k - length p.states in
                  let at : k ≡ length p.states + i = omega (arith, past) in
                  let lt : i < length p.inputs = omega (arith, past, input) in
                  sym (input_range p v k i no_range at lt) ∙ ap (λ (z : ℤ). record { lo = z; hi = z }) value ∙ input_range p u k i no_range at lt
              | inr noise ↦
                  let i : ℕ = k - length p.states - length p.inputs in
                  let at : k ≡ length p.states + length p.inputs + i = omega (arith, noise) in
                  in_third state_ranges (ranges v) noise_ranges k i no_range (length p.states) (length p.inputs) states_count (ranges_count v) at
                  ∙ sym (in_third state_ranges (ranges u) noise_ranges k i no_range (length p.states) (length p.inputs) states_count (ranges_count u) at)
            ]
      ]

  -- the same index brings the same central value
  same_value : IsSound p → c < cells_of (axes_of p) → u < vectors_of p.inputs → d < cells_of (axes_of p) → v < vectors_of p.inputs → (k < length p.states + length p.inputs → index_in p c u k ≡ index_in p d v k) → get_or (central_values p d v) k (pos 0) ≡ get_or (central_values p c u) k (pos 0)
  same_value sound cell input other_cell other_input alike =
      elim (cases_lt k (length p.states)) [
        | inl state ↦
            let index = state_slot p d v k state ∙ sym (alike (omega (arith, state))) ∙ sym (state_slot p c u k state) in
            central_middle p sound d v k other_cell state ∙ ap (middle_of (get_or (axes_of p) k no_axis)) index ∙ sym (central_middle p sound c u k cell state)
        | inr past ↦
            elim (cases_lt k (length p.states + length p.inputs)) [
              | inl here ↦
                  let index = among_slot p d v k past ∙ sym (alike here) ∙ sym (among_slot p c u k past) in
                  central_input p d v k past here ∙ inputs_rest p.inputs (k - length p.states) v u (omega (arith, past, here)) other_input input index ∙ sym (central_input p c u k past here)
              | inr noise ↦ central_noise p d v k noise ∙ sym (central_noise p c u k noise)
            ]
      ]

-- ---- one extent

-- a variable that stands in the equation, and isn't a state that shifts the extent
depends : (p : Description) (i k : ℕ) → mentions (equation_at p i) k ≡ true → (shifts_along p i ≡ true → k ≡ i → ⊥) → depends_on p i k ≡ true
depends p i k stands other = and_from (mentions (equation_at p i) k) (not (shifts_along p i && eqb k i)) stands (not_from_false (shifts_along p i && eqb k i) (apart (cases_Bool (shifts_along p i))))
  where
    apart : (shifts_along p i ≡ true) ⊎ (shifts_along p i ≡ false) → (shifts_along p i && eqb k i) ≡ false
    apart (inl moves) = and_right (shifts_along p i) (eqb k i) (ne_eqb k i (other moves))
    apart (inr fixed) = and_left (shifts_along p i) (eqb k i) fixed

module _ (p : Description) (i c u d v : ℕ) (sound : IsSound p) (lt : i < length p.equations)
    (cell : c < cells_of (axes_of p)) (input : u < vectors_of p.inputs) (other_cell : d < cells_of (axes_of p)) (other_input : v < vectors_of p.inputs) (alike : AreAlikeIn p i c u d v) where
  abbrev e : Expression
  e = equation_at p i

  abbrev axis : Axis
  axis = get_or (axes_of p) i no_axis

  state_lt : i < length p.states
  state_lt = omega (arith, lt, sound.one_each)

  same : (k : ℕ) → mentions e k ≡ true → (shifts_along p i ≡ true → k ≡ i → ⊥) → get_or (central_values p d v) k (pos 0) ≡ get_or (central_values p c u) k (pos 0)
  same k stands other = same_value p c u d v k sound cell input other_cell other_input (λ here. alike k here (depends p i k stands other))

  same_deviation : deviation_at p v e ≡ deviation_at p u e
  same_deviation =
      let ranges : AreSameIn no_range e (area_of p v) (area_of p u) = λ k stands. same_range p c u d v k (λ past. same k stands (λ moves is. omega (arith, past, is, state_lt))) in
      let radii : AreSameIn (pos 0) e (radii_of p v) (radii_of p u) = λ k stands. ap (λ (rs : List ℤ). get_or rs k (pos 0)) (same_radii p u v) in
      ap pos (deviations_depend_on_variables e (area_of p v) (area_of p u) (radii_of p v) (radii_of p u) ranges radii)

  -- the same end of two intervals, each so many indices before
  abbrev shift : ℕ → ℤ
  shift b = axis.width *ℤ pos (shifted_by p i b)

  abbrev IsSameBefore : ℤ → ℤ → Type 0
  IsSameBefore there here = there -ℤ shift d ≡ here -ℤ shift c

  shifted_here : shifts_along p i ≡ true → (b : ℕ) → shifted_by p i b ≡ index_along (axes_of p) i b
  shifted_here moves b = cond-true (shifts_along p i) (index_along (axes_of p) i b) 0 moves

  fixed_here : shifts_along p i ≡ false → (b : ℕ) → shifted_by p i b ≡ 0
  fixed_here fixed b = cond-false (shifts_along p i) (index_along (axes_of p) i b) 0 fixed

  -- the value at the centre
  same_centre : (shifts_along p i ≡ true) ⊎ (shifts_along p i ≡ false) → IsSameBefore (value_of e (central_values p d v)) (value_of e (central_values p c u))
  same_centre (inl moves) =
      let but : AreSameBut i e (central_values p d v) (central_values p c u) = λ k other stands. same k stands (λ m is. other is) in
      let apart = values_shift_with_variables e i (central_values p d v) (central_values p c u) moves but in
      rw (shifted_here moves c, shifted_here moves d) (omega (arith, ints, apart, central_middle p sound c u i cell state_lt, central_middle p sound d v i other_cell state_lt))
  same_centre (inr fixed) =
      let value = values_depend_on_variables e (central_values p d v) (central_values p c u) (λ k stands. same k stands (λ m is. both_ways (shifts_along p i) fixed m)) in
      rw (fixed_here fixed c, fixed_here fixed d) (ap (λ (x : ℤ). x -ℤ (axis.width *ℤ pos 0)) value)

  -- the span over the cell
  abbrev span : ℕ → ℕ → Interval
  span b w = span_of e (cell_area_of p b w)

  own_range : (b w : ℕ) → b < cells_of (axes_of p) → get_or (cell_area_of p b w) i no_range ≡ shifted_to (middle_of axis (index_along (axes_of p) i b)) (get_or (offsets_of p u) i no_range)
  own_range b w within =
      cell_range p b w i (omega (arith, state_lt))
      ∙ ap₂ (λ (x : ℤ) (os : List Interval). shifted_to x (get_or os i no_range)) (central_middle p sound b w i within state_lt) (same_offsets p u w)

  same_span : (shifts_along p i ≡ true) ⊎ (shifts_along p i ≡ false) → IsSameBefore (span d v).lo (span c u).lo × IsSameBefore (span d v).hi (span c u).hi
  same_span (inl moves) =
      let but : AreSameRangesBut i e (cell_area_of p d v) (cell_area_of p c u) = λ k other stands. same_cell_range p c u d v k (same k stands (λ m is. other is)) in
      let apart = spans_shift_with_variables e i (cell_area_of p d v) (cell_area_of p c u) moves but in
      let here = own_range c u cell in
      let there = own_range d v other_cell in
      rw (shifted_here moves c, shifted_here moves d)
      (omega (arith, ints, apart.0, ap (λ (r : Interval). r.lo) here, ap (λ (r : Interval). r.lo) there), omega (arith, ints, apart.1, ap (λ (r : Interval). r.hi) here, ap (λ (r : Interval). r.hi) there))
  same_span (inr fixed) =
      let is = spans_depend_on_variables e (cell_area_of p d v) (cell_area_of p c u) (λ k stands. same_cell_range p c u d v k (same k stands (λ m is. both_ways (shifts_along p i) fixed m))) in
      rw (fixed_here fixed c, fixed_here fixed d) (ap (λ (s : Interval). s.lo -ℤ (axis.width *ℤ pos 0)) is, ap (λ (s : Interval). s.hi -ℤ (axis.width *ℤ pos 0)) is)

  -- where the equation leads
  greater_before : (a b x y : ℤ) → IsSameBefore a b → IsSameBefore x y → IsSameBefore (int_max a x) (int_max b y)
  greater_before a b x y h k = omega (arith, ints, clamps, h, k)

  lesser_before : (a b x y : ℤ) → IsSameBefore a b → IsSameBefore x y → IsSameBefore (int_min a x) (int_min b y)
  lesser_before a b x y h k = omega (arith, ints, clamps, h, k)

  same_growth : IsSameBefore (growth_of p d v e).lo (growth_of p c u e).lo × IsSameBefore (growth_of p d v e).hi (growth_of p c u e).hi
  same_growth =
      let value = same_centre (cases_Bool (shifts_along p i)) in
      (omega (arith, ints, value, same_deviation), omega (arith, ints, value, same_deviation))

  same_next_interval : (version : PlantVersion) → IsSameBefore (next_interval_of version p d v e).lo (next_interval_of version p c u e).lo × IsSameBefore (next_interval_of version p d v e).hi (next_interval_of version p c u e).hi
  same_next_interval One = same_growth
  same_next_interval Two =
      let s = same_span (cases_Bool (shifts_along p i)) in
      (greater_before _ _ _ _ same_growth.0 s.0, lesser_before _ _ _ _ same_growth.1 s.1)

  pub alike_extent : (extent : Option Extent) → IsExtentBeforeAt p d v i (shifted_by p i d) extent → IsExtentBeforeAt p c u i (shifted_by p i c) extent
  alike_extent extent is =
      let next_interval = same_next_interval p.version in
      let low : get_or (low_corner p d v) i (pos 0) -ℤ shift d ≡ get_or (low_corner p c u) i (pos 0) -ℤ shift c = omega (arith, ints, next_interval.0, low_is p c u i lt, low_is p d v i lt) in
      let high : get_or (high_corner p d v) i (pos 0) -ℤ shift d ≡ get_or (high_corner p c u) i (pos 0) -ℤ shift c = omega (arith, ints, next_interval.1, high_is p c u i lt, high_is p d v i lt) in
      subst₂ (λ (x y : ℤ). IsExtentOf (extended_axis axis) x y extent) low high is
