-- The indices of a pair: those of its cell, then those of its input.
use Rattle.std.proofs.Common.{◌≡◌, ℕ, ◌+◌, ◌-◌, ◌*◌, ◌%◌, ◌<◌, ◌≤◌, List, Bool, true, false, length, map, drop, get_or, refl, sym, ap, subst, ◌∙◌, arith, inl, inr}
use Rattle.std.specs.List.{range_with_len}
use Rattle.std.specs.Prelude.{nat_lt, if◌then◌else◌}
use Rattle.std.proofs.Math.Nat.{zero-div, zero-mod}
use Rattle.std.proofs.lemmas.Bool.{cases_lt, cond_below, cond_above}
use Rattle.std.proofs.lemmas.Nat.{mod_below}
use Rattle.std.proofs.lemmas.List.{length-map, drop_more}
use Rattle.std.proofs.lemmas.List.FromFn.{length-map-range_with_len, get_or-map-range_with_len}
use Rattle.mixed_radix.specs.Radix.{size, stride, number, digit, AreDigits, AreDigitsOf}
use Rattle.mixed_radix.proofs.Numbers.{digit_is}
use Rattle.mixed_radix.proofs.Steps.{number_below, some_count}
use Rattle.grid_quantiser.specs.Axes.{counts_of, cells_of}
use Rattle.grid_quantiser.specs.Indices.{index_along}
use Rattle.grid_quantiser.proofs.Counts.{length-counts_of}
use Rattle.grid_quantiser.proofs.Suffixes.{some_cells}
use Rattle.plant_record.specs.declared.variables.InputVariable.{InputVariable}
use Rattle.plant_record.specs.Description.{Description, axis_of, axes_of, value_counts, vectors_of}
use Rattle.plant_record.specs.ValueIndices.{value_count, value_index}
use Rattle.plant_record.specs.Plants.{IsPlant}
use Rattle.plant_record.specs.Soundness.{IsSound}
use Rattle.plant_record.proofs.lemmas.InputVectors.{some_vectors}
use Rattle.successor_box.specs.PairExtents.{index_in}
use Rattle.successor_box.proofs.LineValues.{state_slot, among_slot}
use Rattle.pair_boxes.specs.inside.Digits.{count_in}

no_digit_of : (counts : List ℕ) (k : ℕ) → digit counts k 0 ≡ 0
no_digit_of counts k = ap (λ (n : ℕ). n % get_or counts k 0) (zero-div (stride counts k)) ∙ zero-mod (get_or counts k 0)

-- digits below the counts are those of a number
number_with : (counts : List ℕ) (f : ℕ → ℕ) → ((k : ℕ) → k < length counts → f k < get_or counts k 0) → (c : ℕ) × (c < size counts) × ((k : ℕ) → k < length counts → digit counts k c ≡ f k)
number_with counts f below =
    let ds : List ℕ = map f (range_with_len 0 (length counts)) in
    let each : (k : ℕ) → k < length counts → get_or ds k 0 ≡ f k = λ k lt. get_or-map-range_with_len f 0 (length counts) k k 0 lt (omega arith) in
    let are : AreDigits counts ds = record { long = omega (arith, length-map-range_with_len f 0 (length counts)); below = λ k lt. omega (arith, each k lt, below k lt) } in
    let of : AreDigitsOf counts (number counts ds) ds = record { are = are; number_is = refl } in
    (number counts ds, number_below counts ds are, λ k lt. digit_is counts ds (number counts ds) k of lt ∙ each k lt)

-- A cell and an input have such indices, the input's after those of the states.
pub record HasIndices (p : Description) (f : ℕ → ℕ) (c u : ℕ) : Type 0 where
  pub cell : c < cells_of (axes_of p)
  pub input : u < vectors_of p.inputs
  pub along : (k : ℕ) → k < length p.states → index_along (axes_of p) k c ≡ f k
  pub values : (k : ℕ) → k < length p.inputs → value_index p.inputs k u ≡ f (length p.states + k)

module _ (p : Description) where
  abbrev states : ℕ
  states = length p.states

  -- a count by its kind
  pub count_along : (k : ℕ) → k < states → get_or (counts_of (axes_of p)) k 0 ≡ count_in p k
  count_along k state = cond_below k states (get_or (counts_of (axes_of p)) k 0) (value_count p.inputs (k - states)) state

  pub count_among : (k : ℕ) → states ≤ k → value_count p.inputs (k - states) ≡ count_in p k
  count_among k past = cond_above k states (get_or (counts_of (axes_of p)) k 0) (value_count p.inputs (k - states)) (value_count p.inputs (k - states)) past refl

  along : length (counts_of (axes_of p)) ≡ states
  along = length-counts_of (axes_of p) ∙ length-map p.states axis_of

  among : length (value_counts p.inputs) ≡ length p.inputs
  among = length-map p.inputs (λ (i : InputVariable). length i.values)

  pub some_value : IsPlant p → (j : ℕ) → j < length p.inputs → 0 < value_count p.inputs j
  some_value plant j within = some_count (value_counts p.inputs) j (omega (arith, within, among)) (some_vectors p.inputs plant.inputs)

  pub some_count_in : IsPlant p → IsSound p → (k : ℕ) → k < states + length p.inputs → 0 < count_in p k
  some_count_in plant sound k within =
      elim (cases_lt k states) [
        | inl state ↦ subst (λ (n : ℕ). 0 < n) (count_along k state) (some_count (counts_of (axes_of p)) k (omega (arith, state, along)) (some_cells (axes_of p) sound.axes.each))
        | inr past ↦ subst (λ (n : ℕ). 0 < n) (count_among k past) (some_value plant (k - states) (omega (arith, within, past)))
      ]

  pub index_in_below : (c u k : ℕ) → 0 < count_in p k → index_in p c u k < count_in p k
  index_in_below c u k = by (nat_lt k states)
    where
      by : (b : Bool) → 0 < (if b then get_or (counts_of (axes_of p)) k 0 else value_count p.inputs (k - states)) →
          (if b then index_along (axes_of p) k c else value_index p.inputs (k - states) u) < (if b then get_or (counts_of (axes_of p)) k 0 else value_count p.inputs (k - states))
      by true some = mod_below _ (get_or (counts_of (axes_of p)) k 0) some
      by false some = mod_below _ (value_count p.inputs (k - states)) some

  -- indices below the counts are those of a pair
  pub pair_with : (f : ℕ → ℕ) → ((k : ℕ) → k < states + length p.inputs → f k < count_in p k) → (c : ℕ) × (u : ℕ) × HasIndices p f c u
  pair_with f below =
      let back : (j : ℕ) → states + j - states ≡ j = λ j. omega arith in
      let cell = number_with (counts_of (axes_of p)) f (λ k lt. omega (arith, below k (omega (arith, lt, along)), count_along k (omega (arith, lt, along)))) in
      let input = number_with (value_counts p.inputs) (λ (j : ℕ). f (states + j))
      (λ j lt. omega (arith, below (states + j) (omega (arith, lt, among)), count_among (states + j) (omega arith), ap (value_count p.inputs) (back j))) in (
        cell.0,
        input.0,
        record {
          cell = cell.1;
          input = input.1;
          along = λ k state. cell.2 k (omega (arith, state, along));
          values = λ j lt. input.2 j (omega (arith, lt, among));
        },
      )

  -- the indices of a pair in all variables
  pub pair_indices : (f : ℕ → ℕ) (c u : ℕ) → HasIndices p f c u → (k : ℕ) → k < states + length p.inputs → index_in p c u k ≡ f k
  pair_indices f c u are k within =
      elim (cases_lt k states) [
        | inl state ↦ sym (state_slot p c u k state) ∙ are.along k state
        | inr past ↦ sym (among_slot p c u k past) ∙ are.values (k - states) (omega (arith, within, past)) ∙ ap f (let there : states + (k - states) ≡ k = omega (arith, past) in there)
      ]

  -- the indices from a state or an input variable on are its own, for each of those after it
  pub next_along : (k : ℕ) → k < states → size (drop k (counts_of (axes_of p))) ≡ count_in p k * size (drop (k + 1) (counts_of (axes_of p)))
  next_along k state =
      ap size (drop_more (counts_of (axes_of p)) k 0 (omega (arith, state, along))) ∙ ap (λ (n : ℕ). n * size (drop (k + 1) (counts_of (axes_of p)))) (count_along k state)

  pub next_among : (j : ℕ) → j < length p.inputs → size (drop j (value_counts p.inputs)) ≡ value_count p.inputs j * size (drop (j + 1) (value_counts p.inputs))
  next_among j lt = ap size (drop_more (value_counts p.inputs) j 0 (omega (arith, lt, among)))

  -- ---- the first cell and the first input bring nothing

  pub no_index_along : (u k : ℕ) → k < states → 0 ≡ index_in p 0 u k
  no_index_along u k state = sym (no_digit_of (counts_of (axes_of p)) k) ∙ state_slot p 0 u k state

  pub no_value_index : (c k : ℕ) → states ≤ k → 0 ≡ index_in p c 0 k
  no_value_index c k past = sym (no_digit_of (value_counts p.inputs) (k - states)) ∙ among_slot p c 0 k past

  -- the indices of a pair are those of its cell and those of its input
  pub index_terms : (c u k : ℕ) → index_in p c u k ≡ index_in p c 0 k + index_in p 0 u k
  index_terms c u k =
      elim (cases_lt k states) [
        | inl state ↦ omega (arith, state_slot p c u k state, state_slot p c 0 k state, no_index_along u k state)
        | inr past ↦ omega (arith, among_slot p c u k past, among_slot p 0 u k past, no_value_index c k past)
      ]
