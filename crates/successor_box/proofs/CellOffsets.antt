-- The range of a variable over a cell depends on its value at the cell's centre.
use Rattle.std.proofs.Common.{◌≡◌, ℕ, zero, suc, ◌+◌, ◌-◌, ◌/◌, ◌%◌, ◌<◌, ◌≤◌, List, [], ◌∷◌, ◌++◌, length, map, take, get_or, refl, sym, ap, ap₂, ◌∙◌, arith, inl, inr}
use Rattle.std.specs.Prelude.{ℤ, pos, neg_ℤ, ◌+ℤ◌, ◌-ℤ◌, ◌*ℤ◌}
use Rattle.std.proofs.lemmas.Bool.{cases_lt}
use Rattle.std.proofs.lemmas.Int.{ints}
use Rattle.std.proofs.lemmas.List.{length-append, length-map, length-take-le, get_or-map, get_or_past}
use Rattle.interval_eval.specs.declared.interval.Interval.{Interval}
use Rattle.grid_quantiser.specs.declared.axis.Axis.{Axis}
use Rattle.grid_quantiser.specs.Axes.{no_axis, cells_of}
use Rattle.grid_quantiser.specs.Cells.{low_of, high_of, radius_of, centre_of}
use Rattle.plant_record.specs.declared.variables.StateVariable.{StateVariable}
use Rattle.plant_record.specs.declared.variables.NoiseVariable.{NoiseVariable}
use Rattle.plant_record.specs.Description.{Description, axis_of, axes_of, vector_of}
use Rattle.plant_record.proofs.lemmas.ListElements.{in_first, in_second, in_third}
use Rattle.plant_record.proofs.lemmas.VariableValues.{vector_length}
use Rattle.successor_box.specs.SuccessorBoxes.{noise_centre, ranges_between, cell_area_of, central_values}
use Rattle.successor_box.specs.inside.Area.{no_range, variables_of, noise_offset, offsets_of, shifted_to}
use Rattle.successor_box.proofs.CellAreas.{ranges_long, low_count, high_count}
use Rattle.successor_box.proofs.Centres.{centre_enough, central_count}
use Rattle.successor_box.proofs.Ranges.{after_count}

-- ---- intervals shifted by numbers, one for each

pub shifted_all : List ℤ → List Interval → List Interval
shifted_all [] os = []
shifted_all (x ∷ xs) [] = []
shifted_all (x ∷ xs) (o ∷ os) = shifted_to x o ∷ shifted_all xs os

shifted_append : (xs ys : List ℤ) (os ps : List Interval) → length xs ≡ length os → shifted_all (xs ++ ys) (os ++ ps) ≡ shifted_all xs os ++ shifted_all ys ps
unfolding shifted_all
shifted_append [] ys [] ps long = refl
shifted_append (x ∷ xs) ys (o ∷ os) ps long = ap (λ (is : List Interval). shifted_to x o ∷ is) (shifted_append xs ys os ps (omega (arith, long)))
shifted_append _ ys _ ps long = absurd (omega (arith, long))

shifted_at : (xs : List ℤ) (os : List Interval) (k : ℕ) → k < length xs → k < length os → get_or (shifted_all xs os) k no_range ≡ shifted_to (get_or xs k (pos 0)) (get_or os k no_range)
unfolding shifted_all
shifted_at [] os k first second = absurd (omega (arith, first))
shifted_at (x ∷ xs) [] k first second = absurd (omega (arith, second))
shifted_at (x ∷ xs) (o ∷ os) zero first second = refl
shifted_at (x ∷ xs) (o ∷ os) (suc k) first second = shifted_at xs os k (omega (arith, first)) (omega (arith, second))

-- ---- states, inputs and noises

abbrev pub axis_offset : Axis → Interval
axis_offset a = record { lo = neg_ℤ (radius_of a); hi = (a.width -ℤ pos 1) -ℤ radius_of a }

between : (x y : ℤ) (i : Interval) → i.lo ≡ x → i.hi ≡ y → ◌≡◌ {A = Interval} i (record { lo = x; hi = y })
between x y i low high = ap₂ (λ (l h : ℤ). record { lo = l; hi = h }) low high

states_shifted : (states : List StateVariable) (c : ℕ) → shifted_all (take (length states) (centre_of (map axis_of states) c)) (map axis_offset (map axis_of states)) ≡ ranges_between (low_of (map axis_of states) c) (high_of (map axis_of states) c)
unfolding shifted_all
states_shifted [] c = refl
states_shifted (s ∷ states) c =
    let axes = map axis_of states in
    ap₂ (λ (i : Interval) (is : List Interval). i ∷ is)
    (one ((axis_of s).lo +ℤ ((axis_of s).width *ℤ pos (c / cells_of axes))) (radius_of (axis_of s)) (axis_of s).width)
    (states_shifted states (c % cells_of axes))
  where
    one : (x r w : ℤ) → shifted_to (x +ℤ r) (record { lo = neg_ℤ r; hi = (w -ℤ pos 1) -ℤ r }) ≡ record { lo = x; hi = x +ℤ (w -ℤ pos 1) }
    one x r w = between x (x +ℤ (w -ℤ pos 1)) (shifted_to (x +ℤ r) (record { lo = neg_ℤ r; hi = (w -ℤ pos 1) -ℤ r })) (omega (arith, ints)) (omega (arith, ints))

inputs_shifted : (vs : List ℤ) → shifted_all vs (map (λ (_ : ℤ). no_range) vs) ≡ map (λ v. record { lo = v; hi = v }) vs
unfolding shifted_all
inputs_shifted [] = refl
inputs_shifted (v ∷ vs) = ap₂ (λ (i : Interval) (is : List Interval). i ∷ is) (between v v (shifted_to v no_range) (omega (arith, ints)) (omega (arith, ints))) (inputs_shifted vs)

noises_shifted : (noises : List NoiseVariable) → shifted_all (take (length noises) (map noise_centre noises)) (map noise_offset noises) ≡ map (λ (w : NoiseVariable). record { lo = w.low; hi = w.high }) noises
unfolding shifted_all
noises_shifted [] = refl
noises_shifted (w ∷ noises) = ap₂ (λ (i : Interval) (is : List Interval). i ∷ is) (one (noise_centre w) w.low w.high) (noises_shifted noises)
  where
    one : (m low high : ℤ) → shifted_to m (record { lo = low -ℤ m; hi = high -ℤ m }) ≡ record { lo = low; hi = high }
    one m low high = between low high (shifted_to m (record { lo = low -ℤ m; hi = high -ℤ m })) (omega (arith, ints)) (omega (arith, ints))

-- ---- all variables

module _ (p : Description) (c u : ℕ) where
  abbrev centre : List ℤ
  centre = take (length p.states) (centre_of (axes_of p) c)

  abbrev noise_middles : List ℤ
  noise_middles = take (length p.noises) (map noise_centre p.noises)

  centre_long : length centre ≡ length p.states
  centre_long = length-take-le (length p.states) (centre_of (axes_of p) c) (centre_enough p c)

  abbrev input_offsets : List Interval
  input_offsets = map (λ (_ : ℤ). no_range) (vector_of p.inputs u)

  states_offset : length (map axis_offset (axes_of p)) ≡ length p.states
  states_offset = length-map (axes_of p) axis_offset ∙ length-map p.states axis_of

  inputs_offset : length input_offsets ≡ length p.inputs
  inputs_offset = length-map (vector_of p.inputs u) _ ∙ vector_length p.inputs u

  pub offset_count : length (offsets_of p u) ≡ variables_of p
  offset_count = omega (arith, length-append (map axis_offset (axes_of p) ++ input_offsets) (map noise_offset p.noises), length-append (map axis_offset (axes_of p)) input_offsets, states_offset, inputs_offset, length-map p.noises noise_offset)

  pub cell_area_is : cell_area_of p c u ≡ shifted_all (central_values p c u) (offsets_of p u)
  cell_area_is =
      let front : length (centre ++ vector_of p.inputs u) ≡ length (map axis_offset (axes_of p) ++ input_offsets) =
      omega (arith, length-append centre (vector_of p.inputs u), length-append (map axis_offset (axes_of p)) input_offsets, centre_long, vector_length p.inputs u, states_offset, inputs_offset) in
      sym (shifted_append (centre ++ vector_of p.inputs u) noise_middles (map axis_offset (axes_of p) ++ input_offsets) (map noise_offset p.noises) front
      ∙ ap₂ (λ (is js : List Interval). is ++ js)
      (shifted_append centre (vector_of p.inputs u) (map axis_offset (axes_of p)) input_offsets (omega (arith, centre_long, states_offset))
      ∙ ap₂ (λ (is js : List Interval). is ++ js) (states_shifted p.states c) (inputs_shifted (vector_of p.inputs u)))
      (noises_shifted p.noises))

  pub cell_range : (k : ℕ) → k < variables_of p → get_or (cell_area_of p c u) k no_range ≡ shifted_to (get_or (central_values p c u) k (pos 0)) (get_or (offsets_of p u) k no_range)
  cell_range k lt = ap (λ (area : List Interval). get_or area k no_range) cell_area_is ∙ shifted_at (central_values p c u) (offsets_of p u) k (omega (arith, lt, central_count p c u)) (omega (arith, lt, offset_count))

pub cell_area_long : (p : Description) (c u : ℕ) → length (cell_area_of p c u) ≡ variables_of p
cell_area_long p c u =
    let lows : List ℤ = low_of (axes_of p) c in
    let highs : List ℤ = high_of (axes_of p) c in
    after_count p u (ranges_between lows highs) (ranges_long lows highs (length p.states) (low_count p c u) (high_count p c u))

-- inputs have no offset
pub same_constants : {X : Type 0} (x : X) (ys zs : List ℤ) → length ys ≡ length zs → map (λ (_ : ℤ). x) ys ≡ map (λ (_ : ℤ). x) zs
same_constants x [] [] long = refl
same_constants {X} x (y ∷ ys) (z ∷ zs) long = ap (λ (xs : List X). x ∷ xs) (same_constants x ys zs (omega (arith, long)))
same_constants x _ _ long = absurd (omega (arith, long))

pub same_offsets : (p : Description) (u v : ℕ) → offsets_of p v ≡ offsets_of p u
same_offsets p u v =
    ap (λ (os : List Interval). map axis_offset (axes_of p) ++ os ++ map noise_offset p.noises)
    (same_constants no_range (vector_of p.inputs v) (vector_of p.inputs u) (vector_length p.inputs v ∙ sym (vector_length p.inputs u)))

pub same_cell_range : (p : Description) (c u d v k : ℕ) → get_or (central_values p d v) k (pos 0) ≡ get_or (central_values p c u) k (pos 0) → get_or (cell_area_of p d v) k no_range ≡ get_or (cell_area_of p c u) k no_range
same_cell_range p c u d v k same =
    elim (cases_lt k (variables_of p)) [
      | inl lt ↦ cell_range p d v k lt ∙ ap₂ (λ (x : ℤ) (os : List Interval). shifted_to x (get_or os k no_range)) same (same_offsets p u v) ∙ sym (cell_range p c u k lt)
      | inr past ↦ get_or_past (cell_area_of p d v) k no_range (omega (arith, past, cell_area_long p d v)) ∙ sym (get_or_past (cell_area_of p c u) k no_range (omega (arith, past, cell_area_long p c u)))
    ]

-- ---- the offset of one variable

module _ (p : Description) (u k : ℕ) where
  abbrev state_offsets : List Interval
  state_offsets = map axis_offset (axes_of p)

  abbrev no_offsets : List Interval
  no_offsets = map (λ (_ : ℤ). no_range) (vector_of p.inputs u)

  pub state_offset : (i : ℕ) → k ≡ i → i < length p.states → axis_offset (get_or (axes_of p) i no_axis) ≡ get_or (offsets_of p u) k no_range
  state_offset i at lt =
      sym (in_first state_offsets no_offsets (map noise_offset p.noises) k i no_range at (omega (arith, lt, states_offset p 0 u))
      ∙ get_or-map axis_offset (axes_of p) i no_axis no_range (omega (arith, lt, length-map p.states axis_of)))

  pub input_offset : length p.states ≤ k → k < length p.states + length p.inputs → no_range ≡ get_or (offsets_of p u) k no_range
  input_offset le lt =
      sym (in_second state_offsets no_offsets (map noise_offset p.noises) k (k - length p.states) no_range (length p.states) (states_offset p 0 u) (omega (arith, le)) (omega (arith, le, lt, inputs_offset p 0 u))
      ∙ get_or-map (λ (_ : ℤ). no_range) (vector_of p.inputs u) (k - length p.states) (pos 0) no_range (omega (arith, le, lt, vector_length p.inputs u)))

  pub noise_offset_is : (i : ℕ) → k ≡ length p.states + length p.inputs + i → get_or (map noise_offset p.noises) i no_range ≡ get_or (offsets_of p u) k no_range
  noise_offset_is i at = sym (in_third state_offsets no_offsets (map noise_offset p.noises) k i no_range (length p.states) (length p.inputs) (states_offset p 0 u) (inputs_offset p 0 u) at)
