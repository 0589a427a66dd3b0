-- The ranges and the radii of a plant's variables, one by one.
use Rattle.std.proofs.Common.{◌≡◌, ℕ, zero, suc, ◌+◌, ◌-◌, ◌^◌, ◌<◌, ◌≤◌, List, [], ◌∷◌, ◌++◌, Some, All, length, map, take, replicate, get_or, refl, sym, ap, ap₂, subst, ◌∙◌, arith}
use Rattle.std.specs.Prelude.{ℤ, pos, nat_abs, ◌+ℤ◌, ◌-ℤ◌, ◌≤ℤ◌, slice_get}
use Rattle.std.specs.Option.{option_map}
use Rattle.std.proofs.lemmas.Int.{ints}
use Rattle.std.proofs.lemmas.Option.{none-some, same_Some}
use Rattle.std.proofs.lemmas.List.{length-append, length-map, length-take-le, get_or-map, get_or-take, take-append-le, take_all}
use Rattle.std.proofs.lemmas.List.Elements.{All-head, All-tail}
use Rattle.fixed_expr.specs.DivExpr.{floor_div}
use Rattle.interval_eval.specs.declared.interval.Interval.{Interval}
use Rattle.grid_quantiser.specs.declared.axis.Axis.{Axis}
use Rattle.grid_quantiser.specs.Axes.{end_of, no_axis, cells_of}
use Rattle.grid_quantiser.specs.Cells.{low_of, high_of, radius_of, point_of}
use Rattle.plant_record.specs.declared.variables.StateVariable.{StateVariable}
use Rattle.plant_record.specs.declared.variables.NoiseVariable.{NoiseVariable}
use Rattle.plant_record.specs.Variables.{IsNoiseVariable}
use Rattle.plant_record.specs.Soundness.{IsSound, IsFilledByCells}
use Rattle.plant_record.specs.Description.{Description, axis_of, axes_of, vector_of}
use Rattle.plant_record.proofs.lemmas.ListElements.{in_first, in_second, in_third}
use Rattle.plant_record.proofs.lemmas.VariableValues.{vector_length}
use Rattle.successor_box.specs.SuccessorBoxes.{noise_centre, area_of, ranges_between, area_between, radii_of}
use Rattle.successor_box.specs.inside.Area.{variables_of, area_from, no_range, noise_offset}
use Rattle.successor_box.proofs.Below.{domain_has_ends}
use Rattle.successor_box.proofs.CellAreas.{ranges_long}
use Rattle.successor_box.proofs.CellValues.{middle}
use Rattle.successor_box.proofs.Middles.{between_literals}

-- ---- the least and the greatest number of each state

lows : (states : List StateVariable) → map (λ (a : Axis). a.lo) (map axis_of states) ≡ map (λ (s : StateVariable). s.low) states
lows [] = refl
lows (s ∷ states) = ap (λ (xs : List ℤ). s.low ∷ xs) (lows states)

before_end : (end high : ℤ) → end ≡ high +ℤ pos 1 → end -ℤ pos 1 ≡ high
before_end end high is = omega (arith, ints, is)

highs : (states : List StateVariable) → All IsFilledByCells states → map (λ (a : Axis). end_of a -ℤ pos 1) (map axis_of states) ≡ map (λ (s : StateVariable). s.high) states
highs [] whole = refl
highs (s ∷ states) whole =
    ap₂ (λ (x : ℤ) (xs : List ℤ). x ∷ xs) (before_end (end_of (axis_of s)) s.high (All-head IsFilledByCells s states whole)) (highs states (All-tail IsFilledByCells s states whole))

-- ---- one variable

-- what is made of the range of a noise
pub noise_told : (T : Type 0) (F : ℤ × ℤ → T) (noises : List NoiseVariable) (k : ℕ) (r : ℤ × ℤ) (d : T) → option_map (λ (w : NoiseVariable). (w.low, w.high)) (slice_get noises k) ≡ Some r → F r ≡ get_or (map (λ (w : NoiseVariable). F (w.low, w.high)) noises) k d
noise_told T F [] k r d is = absurd (none-some r is)
noise_told T F (w ∷ noises) zero r d is = ap F (sym (same_Some (w.low, w.high) r is))
noise_told T F (w ∷ noises) (suc k) r d is = noise_told T F noises k r d is

-- The range of a noise of a plant, and where it lies from its centre.
pub record IsNoiseAt (noises : List NoiseVariable) (k : ℕ) (r : ℤ × ℤ) : Type 0 where
  pub low : nat_abs r.0 < 10 ^ 18
  pub high : nat_abs r.1 < 10 ^ 18
  pub short : nat_abs (floor_div (r.0 +ℤ r.1) (pos 2)) < 10 ^ 18
  pub centre : floor_div (r.0 +ℤ r.1) (pos 2) ≡ get_or (map noise_centre noises) k (pos 0)
  pub offset : ◌≡◌ {A = Interval} (record { lo = r.0 -ℤ floor_div (r.0 +ℤ r.1) (pos 2); hi = r.1 -ℤ floor_div (r.0 +ℤ r.1) (pos 2) }) (get_or (map noise_offset noises) k no_range)

pub noise_at : (noises : List NoiseVariable) (k : ℕ) (r : ℤ × ℤ) → All IsNoiseVariable noises → option_map (λ (w : NoiseVariable). (w.low, w.high)) (slice_get noises k) ≡ Some r → IsNoiseAt noises k r
noise_at [] k r each is = absurd (none-some r is)
noise_at (w ∷ noises) zero r each is =
    let h = All-head IsNoiseVariable w noises each in
    let same : w.low ≤ℤ w.low = omega (arith, ints) in
    let m = middle w.low w.high w.low same h.ordered in
    subst (IsNoiseAt (w ∷ noises) zero) (same_Some (w.low, w.high) r is)
    (record { low = h.low; high = h.high; short = between_literals w.low w.high (noise_centre w) h.low h.high m.above_low m.below_high; centre = refl; offset = refl })
noise_at (w ∷ noises) (suc k) r each is =
    let h = noise_at noises k r (All-tail IsNoiseVariable w noises each) is in
    record { low = h.low; high = h.high; short = h.short; centre = h.centre; offset = h.offset }

-- the greatest offset is the radius
radius_at : (noises : List NoiseVariable) (k : ℕ) (d : ℤ) → k < length noises → (get_or (map noise_offset noises) k no_range).hi ≡ get_or (map (λ (w : NoiseVariable). w.high -ℤ noise_centre w) noises) k d
radius_at [] k d lt = absurd (omega (arith, lt))
radius_at (w ∷ noises) zero d lt = refl
radius_at (w ∷ noises) (suc k) d lt = radius_at noises k d (omega (arith, lt))

-- the ranges of states
states_between : (states : List StateVariable) → ranges_between (map (λ (s : StateVariable). s.low) states) (map (λ (s : StateVariable). s.high) states) ≡ map (λ (s : StateVariable). record { lo = s.low; hi = s.high }) states
states_between [] = refl
states_between (s ∷ states) = ap (λ (is : List Interval). record { lo = s.low; hi = s.high } ∷ is) (states_between states)

between_at : (xs ys : List ℤ) (k : ℕ) (d : Interval) → k < length xs → k < length ys → ◌≡◌ {A = Interval} (record { lo = get_or xs k (pos 0); hi = get_or ys k (pos 0) }) (get_or (ranges_between xs ys) k d)
between_at [] ys k d m n = absurd (omega (arith, m))
between_at (x ∷ xs) [] k d m n = absurd (omega (arith, n))
between_at (x ∷ xs) (y ∷ ys) zero d m n = refl
between_at (x ∷ xs) (y ∷ ys) (suc k) d m n = between_at xs ys k d (omega (arith, m)) (omega (arith, n))

-- the first numbers of a point
pub point_front : (xs : List ℤ) (n : ℕ) → length xs ≡ n → take n (point_of xs) ≡ xs
point_front xs n long = take-append-le n xs (replicate (6 - length xs) (pos 0)) (omega (arith, long)) ∙ take_all n xs (omega (arith, long))

-- the domain reaches from the least point of the first cell to the greatest of the last
pub area_is_between : (p : Description) (u : ℕ) → IsSound p → area_of p u ≡ area_between p (low_of (axes_of p) 0) (high_of (axes_of p) (cells_of (axes_of p) - 1)) u
area_is_between p u sound =
    let domain = domain_has_ends (axes_of p) sound.axes in
    let low : low_of (axes_of p) 0 ≡ map (λ (s : StateVariable). s.low) p.states = domain.0 ∙ lows p.states in
    let high : high_of (axes_of p) (cells_of (axes_of p) - 1) ≡ map (λ (s : StateVariable). s.high) p.states = domain.1 ∙ highs p.states sound.whole in
    ap (λ (is : List Interval). is ++ map (λ v. record { lo = v; hi = v }) (vector_of p.inputs u) ++ map (λ (w : NoiseVariable). record { lo = w.low; hi = w.high }) p.noises) (sym (states_between p.states))
    ∙ sym (ap₂ (λ (xs ys : List ℤ). area_between p xs ys u) low high)

module _ (p : Description) (u : ℕ) where
  abbrev states_in : List Interval
  states_in = map (λ (s : StateVariable). record { lo = s.low; hi = s.high }) p.states

  abbrev inputs_in : List Interval
  inputs_in = map (λ v. record { lo = v; hi = v }) (vector_of p.inputs u)

  abbrev noises_in : List Interval
  noises_in = map (λ (w : NoiseVariable). record { lo = w.low; hi = w.high }) p.noises

  noises_count : length noises_in ≡ length p.noises
  noises_count = length-map p.noises _

  states_count : length states_in ≡ length p.states
  states_count = length-map p.states _

  inputs_count : length inputs_in ≡ length p.inputs
  inputs_count = length-map (vector_of p.inputs u) _ ∙ vector_length p.inputs u

  -- after as many ranges as there are states
  module _ (front : List Interval) (long : length front ≡ length p.states) where
    pub after_count : length (front ++ inputs_in ++ noises_in) ≡ variables_of p
    after_count = omega (arith, length-append (front ++ inputs_in) noises_in, length-append front inputs_in, long, inputs_count, noises_count)

    -- the range of an input
    input_after : (k i : ℕ) (d : Interval) → k ≡ length p.states + i → i < length p.inputs →
        ◌≡◌ {A = Interval} (record { lo = get_or (vector_of p.inputs u) i (pos 0); hi = get_or (vector_of p.inputs u) i (pos 0) }) (get_or (front ++ inputs_in ++ noises_in) k d)
    input_after k i d at lt =
        sym (in_second front inputs_in noises_in k i d (length p.states) long at (omega (arith, lt, inputs_count))
        ∙ get_or-map (λ v. record { lo = v; hi = v }) (vector_of p.inputs u) i (pos 0) d (omega (arith, lt, vector_length p.inputs u)))

  -- the range of an input in the domain
  pub input_range : (k i : ℕ) (d : Interval) → k ≡ length p.states + i → i < length p.inputs →
      ◌≡◌ {A = Interval} (record { lo = get_or (vector_of p.inputs u) i (pos 0); hi = get_or (vector_of p.inputs u) i (pos 0) }) (get_or (area_of p u) k d)
  input_range k i d at lt = input_after states_in states_count k i d at lt

  -- the ranges where the states lie between two points
  module _ (low high : List ℤ) (enough : length p.states ≤ length low) (enough' : length p.states ≤ length high) where
    abbrev least : List ℤ
    least = take (length p.states) low

    abbrev greatest : List ℤ
    greatest = take (length p.states) high

    least_long : length least ≡ length p.states
    least_long = length-take-le (length p.states) low enough

    greatest_long : length greatest ≡ length p.states
    greatest_long = length-take-le (length p.states) high enough'

    between_long : length (ranges_between least greatest) ≡ length p.states
    between_long = ranges_long least greatest (length p.states) least_long greatest_long

    pub between_count : length (area_from p low high u) ≡ variables_of p
    between_count = after_count (ranges_between least greatest) between_long

    pub state_between : (k i : ℕ) (d : Interval) → k ≡ i → i < length p.states → ◌≡◌ {A = Interval} (record { lo = get_or low i (pos 0); hi = get_or high i (pos 0) }) (get_or (area_from p low high u) k d)
    state_between k i d at lt =
        ap₂ (λ (x y : ℤ). record { lo = x; hi = y }) (sym (get_or-take (length p.states) low i (pos 0) lt)) (sym (get_or-take (length p.states) high i (pos 0) lt))
        ∙ between_at least greatest i d (omega (arith, lt, least_long)) (omega (arith, lt, greatest_long))
        ∙ sym (in_first (ranges_between least greatest) inputs_in noises_in k i d at (omega (arith, lt, between_long)))

    pub input_between : (k i : ℕ) (d : Interval) → k ≡ length p.states + i → i < length p.inputs →
        ◌≡◌ {A = Interval} (record { lo = get_or (vector_of p.inputs u) i (pos 0); hi = get_or (vector_of p.inputs u) i (pos 0) }) (get_or (area_from p low high u) k d)
    input_between k i d at lt = input_after (ranges_between least greatest) between_long k i d at lt

    pub noise_between : (k i : ℕ) (r : ℤ × ℤ) (d : Interval) → k ≡ length p.states + length p.inputs + i → option_map (λ (w : NoiseVariable). (w.low, w.high)) (slice_get p.noises i) ≡ Some r →
        ◌≡◌ {A = Interval} (record { lo = r.0; hi = r.1 }) (get_or (area_from p low high u) k d)
    noise_between k i r d at is =
        noise_told Interval (λ (q : ℤ × ℤ). record { lo = q.0; hi = q.1 }) p.noises i r d is
        ∙ sym (in_third (ranges_between least greatest) inputs_in noises_in k i d (length p.states) (length p.inputs) between_long inputs_count at)

  abbrev cell_radii : List ℤ
  cell_radii = map radius_of (axes_of p)

  abbrev input_radii : List ℤ
  input_radii = map (λ _. pos 0) (vector_of p.inputs u)

  abbrev noise_radii : List ℤ
  noise_radii = map (λ (w : NoiseVariable). w.high -ℤ noise_centre w) p.noises

  radii_count : length cell_radii ≡ length p.states
  radii_count = length-map (axes_of p) radius_of ∙ length-map p.states axis_of

  zeros_count : length input_radii ≡ length p.inputs
  zeros_count = length-map (vector_of p.inputs u) _ ∙ vector_length p.inputs u

  -- the radius of a state
  pub state_radius : (k i : ℕ) (d : ℤ) → k ≡ i → i < length p.states → radius_of (get_or (axes_of p) i no_axis) ≡ get_or (radii_of p u) k d
  state_radius k i d at lt = sym (in_first cell_radii input_radii noise_radii k i d at (omega (arith, lt, radii_count)) ∙ get_or-map radius_of (axes_of p) i no_axis d (omega (arith, lt, length-map p.states axis_of)))

  -- the radius of an input
  pub input_radius : (k : ℕ) (d : ℤ) → length p.states ≤ k → k < length p.states + length p.inputs → pos 0 ≡ get_or (radii_of p u) k d
  input_radius k d le lt =
      sym (in_second cell_radii input_radii noise_radii k (k - length p.states) d (length p.states) radii_count (omega (arith, le)) (omega (arith, le, lt, zeros_count))
      ∙ get_or-map (λ _. pos 0) (vector_of p.inputs u) (k - length p.states) (pos 0) d (omega (arith, le, lt, vector_length p.inputs u)))

  -- the radius of a noise
  pub noise_radius : (k i : ℕ) (d : ℤ) → k ≡ length p.states + length p.inputs + i → i < length p.noises → (get_or (map noise_offset p.noises) i no_range).hi ≡ get_or (radii_of p u) k d
  noise_radius k i d at lt = radius_at p.noises i d lt ∙ sym (in_third cell_radii input_radii noise_radii k i d (length p.states) (length p.inputs) radii_count zeros_count at)

  pub all_radii_count : length (radii_of p u) ≡ variables_of p
  all_radii_count = omega (arith, length-append (cell_radii ++ input_radii) noise_radii, length-append cell_radii input_radii, radii_count, zeros_count, length-map p.noises (λ (w : NoiseVariable). w.high -ℤ noise_centre w))
