-- The values of the variables at a cell's centre, and at every point of the cell.
use Rattle.std.proofs.Common.{◌≡◌, ℕ, List, [], ◌∷◌, ◌++◌, All, length, take, map, arith}
use Rattle.std.specs.Prelude.{ℤ, pos, negsuc, ◌+ℤ◌, ◌-ℤ◌, ◌≤ℤ◌}
use Rattle.std.proofs.lemmas.Int.{ints}
use Rattle.std.proofs.lemmas.List.{length-append, length-map}
use Rattle.std.proofs.lemmas.List.Elements.{All-head, All-tail}
use Rattle.fixed_expr.specs.DivExpr.{floor_div}
use Rattle.interval_eval.specs.declared.interval.Interval.{Interval}
use Rattle.interval_eval.specs.Span.{AreIn}
use Rattle.growth_bound.specs.Deviation.{IsNear, AreNear}
use Rattle.grid_quantiser.specs.Axes.{end_of}
use Rattle.grid_quantiser.specs.Cells.{IsInDomain, centre_of, radius_of}
use Rattle.grid_quantiser.specs.Laws.{AreStatesNear}
use Rattle.plant_record.specs.declared.variables.StateVariable.{StateVariable}
use Rattle.plant_record.specs.declared.variables.NoiseVariable.{NoiseVariable}
use Rattle.plant_record.specs.Description.{Description, axis_of, axes_of, names_of, vector_of}
use Rattle.plant_record.specs.Steps.{IsNoise, values_at}
use Rattle.plant_record.specs.Soundness.{IsFilledByCells}
use Rattle.plant_record.specs.Variables.{IsNoiseVariable}
use Rattle.plant_record.proofs.lemmas.VariableValues.{vector_length}
use Rattle.successor_box.specs.SuccessorBoxes.{noise_centre, area_of, radii_of, central_values}
use Rattle.base.proofs.Integers.{up_to}

near_append : (rs xs ys radii values others : List ℤ) → AreNear rs xs ys → AreNear radii values others → AreNear (rs ++ radii) (xs ++ values) (ys ++ others)
near_append [] [] [] radii values others h k = k
near_append (r ∷ rs) (x ∷ xs) (y ∷ ys) radii values others h k = (h.0, near_append rs xs ys radii values others h.1 k)
near_append _ _ _ radii values others h k = absurd h

pub in_append : (is area : List Interval) (xs values : List ℤ) → AreIn is xs → AreIn area values → AreIn (is ++ area) (xs ++ values)
in_append [] area [] values h k = k
in_append (i ∷ is) area (x ∷ xs) values h k = (h.0, in_append is area xs values h.1 k)
in_append _ area _ values h k = absurd h

states_in : (states : List StateVariable) (xs : List ℤ) → All IsFilledByCells states → IsInDomain (map axis_of states) xs → AreIn (map (λ (s : StateVariable). record { lo = s.low; hi = s.high }) states) (take (length states) xs)
states_in [] xs whole inside = tt
states_in (s ∷ states) [] whole inside = absurd inside
states_in (s ∷ states) (x ∷ xs) whole inside =
    ((inside.0, up_to x (end_of (axis_of s)) s.high inside.1 (All-head IsFilledByCells s states whole)), states_in states xs (All-tail IsFilledByCells s states whole) inside.2)

states_near : (states : List StateVariable) (xs ys : List ℤ) → AreStatesNear (map axis_of states) xs ys → AreNear (map radius_of (map axis_of states)) (take (length states) xs) (take (length states) ys)
states_near [] xs ys near = tt
states_near (s ∷ states) (x ∷ xs) (y ∷ ys) near = ((near.0, near.1), states_near states xs ys near.2)
states_near _ _ _ near = absurd near

-- inputs
pub inputs_in : (vs : List ℤ) → AreIn (map (λ v. record { lo = v; hi = v }) vs) vs
inputs_in [] = tt
inputs_in (v ∷ vs) = ((omega (arith, ints), omega (arith, ints)), inputs_in vs)

inputs_near : (vs : List ℤ) → AreNear (map (λ _. pos 0) vs) vs vs
inputs_near [] = tt
inputs_near (v ∷ vs) = ((omega (arith, ints), omega (arith, ints)), inputs_near vs)

-- noises
pub half_bounds : (z : ℤ) → ((floor_div z (pos 2) +ℤ floor_div z (pos 2)) ≤ℤ z) × (z ≤ℤ ((floor_div z (pos 2) +ℤ floor_div z (pos 2)) +ℤ pos 1))
half_bounds (pos m) = (omega (arith, ints), omega (arith, ints))
half_bounds (negsuc m) = (omega (arith, ints), omega (arith, ints))

-- a number of a range, and the range's middle
pub record IsMiddle (low high x m : ℤ) : Type 0 where
  pub above_low : low ≤ℤ m
  pub below_high : m ≤ℤ high
  pub near : IsNear (high -ℤ m) m x

pub middle : (low high x : ℤ) → low ≤ℤ x → x ≤ℤ high → IsMiddle low high x (floor_div (low +ℤ high) (pos 2))
middle low high x below above =
    let bounds = half_bounds (low +ℤ high) in
    by_bounds (floor_div (low +ℤ high) (pos 2)) bounds.0 bounds.1
  where
    by_bounds : (m : ℤ) → (m +ℤ m) ≤ℤ (low +ℤ high) → (low +ℤ high) ≤ℤ ((m +ℤ m) +ℤ pos 1) → IsMiddle low high x m
    by_bounds m p q = record { above_low = omega (arith, ints, p, q, below, above); below_high = omega (arith, ints, p, q, below, above); near = (omega (arith, ints, p, q, below, above), omega (arith, ints, p, q, below, above)) }

pub noises_in : (noises : List NoiseVariable) (w : List ℤ) → IsNoise noises w → AreIn (map (λ (v : NoiseVariable). record { lo = v.low; hi = v.high }) noises) (take (length noises) w)
noises_in [] w noise = tt
noises_in (v ∷ noises) [] noise = absurd noise
noises_in (v ∷ noises) (x ∷ w) noise = ((noise.0, noise.1), noises_in noises w noise.2)

pub centres_in : (noises : List NoiseVariable) (w : List ℤ) → IsNoise noises w → AreIn (map (λ (v : NoiseVariable). record { lo = v.low; hi = v.high }) noises) (take (length noises) (map noise_centre noises))
centres_in [] w noise = tt
centres_in (v ∷ noises) [] noise = absurd noise
centres_in (v ∷ noises) (x ∷ w) noise = let m = middle v.low v.high x noise.0 noise.1 in ((m.above_low, m.below_high), centres_in noises w noise.2)

noises_near : (noises : List NoiseVariable) (w : List ℤ) → IsNoise noises w → AreNear (map (λ (v : NoiseVariable). v.high -ℤ noise_centre v) noises) (take (length noises) (map noise_centre noises)) (take (length noises) w)
noises_near [] w noise = tt
noises_near (v ∷ noises) [] noise = absurd noise
noises_near (v ∷ noises) (x ∷ w) noise = let m = middle v.low v.high x noise.0 noise.1 in (m.near, noises_near noises w noise.2)

same : (z : ℤ) → z ≤ℤ z
same z = omega (arith, ints)

-- the centres of the noises are in range
pub centres_are_noise : (noises : List NoiseVariable) (past : List ℤ) → All IsNoiseVariable noises → IsNoise noises (map noise_centre noises ++ past)
centres_are_noise [] past each = tt
centres_are_noise (v ∷ noises) past each =
    let m = middle v.low v.high v.low (same v.low) (All-head IsNoiseVariable v noises each).ordered in
    (m.above_low, m.below_high, centres_are_noise noises past (All-tail IsNoiseVariable v noises each))

module _ (p : Description) (c u : ℕ) (x w : List ℤ) (noise : IsNoise p.noises w) where
  -- the values at a state in the domain lie in the area
  pub values_in : All IsFilledByCells p.states → IsInDomain (axes_of p) x → AreIn (area_of p u) (values_at p x u w)
  values_in whole inside =
      in_append _ _ _ _ (in_append _ _ _ _ (states_in p.states x whole inside) (inputs_in (vector_of p.inputs u))) (noises_in p.noises w noise)

  -- so do the values at a cell's centre
  pub central_in : All IsFilledByCells p.states → IsInDomain (axes_of p) (centre_of (axes_of p) c) → AreIn (area_of p u) (central_values p c u)
  central_in whole inside =
      in_append _ _ _ _ (in_append _ _ _ _ (states_in p.states (centre_of (axes_of p) c) whole inside) (inputs_in (vector_of p.inputs u))) (centres_in p.noises w noise)

  -- the values near the centre are near those at the centre
  pub values_near : AreStatesNear (axes_of p) (centre_of (axes_of p) c) x → AreNear (radii_of p u) (central_values p c u) (values_at p x u w)
  values_near near =
      near_append _ _ _ _ _ _ (near_append _ _ _ _ _ _ (states_near p.states (centre_of (axes_of p) c) x near) (inputs_near (vector_of p.inputs u))) (noises_near p.noises w noise)

-- ---- how many variables there are

pub area_count : (p : Description) (u : ℕ) → length (area_of p u) ≡ length (names_of p)
area_count p u = simp (length-append, length-map, vector_length)
