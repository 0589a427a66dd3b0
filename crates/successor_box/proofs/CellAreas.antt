-- The ranges of the variables over a cell: they lie within those over the domain, and hold the values at the cell's points.
use Rattle.std.proofs.Common.{◌≡◌, ℕ, ◌/◌, ◌%◌, ◌<◌, List, [], ◌∷◌, ◌++◌, All, length, map, take, refl, arith}
use Rattle.std.specs.Prelude.{ℤ, pos, ◌+ℤ◌, ◌-ℤ◌, ◌*ℤ◌, ◌≤ℤ◌}
use Rattle.std.proofs.lemmas.Int.{ints}
use Rattle.std.proofs.lemmas.List.{length-append, length-map}
use Rattle.std.proofs.lemmas.List.Elements.{All-head, All-tail, All-nil, All-cons, All-append, All-map, All-weaker}
use Rattle.interval_eval.specs.declared.interval.Interval.{Interval}
use Rattle.interval_eval.specs.Span.{IsInterval, AreIn}
use Rattle.interval_eval.specs.NestedAreas.{ArePartsOf}
use Rattle.grid_quantiser.specs.declared.axis.Axis.{Axis}
use Rattle.grid_quantiser.specs.Axes.{IsAxis, end_of, cells_of}
use Rattle.grid_quantiser.specs.Cells.{IsInDomain, IsPointOf, low_of, high_of, centre_of}
use Rattle.grid_quantiser.specs.CellBoxes.{IsAtMost, IsInBox}
use Rattle.grid_quantiser.proofs.CellPoints.{box_from_point, point_from_box, length-low_of, length-high_of}
use Rattle.grid_quantiser.proofs.CentrePoints.{centre_between}
use Rattle.plant_record.specs.declared.variables.StateVariable.{StateVariable}
use Rattle.plant_record.specs.declared.variables.NoiseVariable.{NoiseVariable}
use Rattle.plant_record.specs.Description.{Description, axis_of, axes_of, names_of, vector_of}
use Rattle.plant_record.specs.Steps.{IsNoise, values_at}
use Rattle.plant_record.specs.Soundness.{IsFilledByCells, IsSound}
use Rattle.plant_record.specs.Variables.{IsNoiseVariable}
use Rattle.plant_record.proofs.lemmas.VariableValues.{vector_length}
use Rattle.successor_box.specs.SuccessorBoxes.{noise_centre, area_of, ranges_between, cell_area_of, central_values}
use Rattle.successor_box.proofs.CellValues.{in_append, inputs_in, noises_in, centres_in, centres_are_noise}
use Rattle.base.proofs.Integers.{up_to}

same : (z : ℤ) → z ≤ℤ z
same z = omega (arith, ints)

wide : (x w : ℤ) → pos 1 ≤ℤ w → x ≤ℤ (x +ℤ (w -ℤ pos 1))
wide x w some = omega (arith, ints, some)

-- ---- the cell in each state

pub ranges_long : (lows highs : List ℤ) (n : ℕ) → length lows ≡ n → length highs ≡ n → length (ranges_between lows highs) ≡ n
ranges_long [] [] n low high = low
ranges_long (l ∷ lows) (h ∷ highs) n low high = omega (arith, low, high, ranges_long lows highs (length lows) refl (omega (arith, low, high)))
ranges_long _ _ n low high = absurd (omega (arith, low, high))

intervals_between : (axes : List Axis) (c : ℕ) → All IsAxis axes → All IsInterval (ranges_between (low_of axes c) (high_of axes c))
intervals_between [] c each = All-nil IsInterval
intervals_between (a ∷ axes) c each =
    All-cons IsInterval _ _
    (wide (a.lo +ℤ (a.width *ℤ pos (c / cells_of axes))) a.width (All-head IsAxis a axes each).some_width)
    (intervals_between axes (c % cells_of axes) (All-tail IsAxis a axes each))

-- the least and the greatest point of a cell, in order
record AreEnds (axes : List Axis) (c : ℕ) : Type 0 where
  pub least : IsAtMost axes (low_of axes c) (low_of axes c)
  pub ordered : IsAtMost axes (low_of axes c) (high_of axes c)
  pub greatest : IsAtMost axes (high_of axes c) (high_of axes c)

ends : (axes : List Axis) (c : ℕ) → All IsAxis axes → AreEnds axes c
ends [] c each = record { least = tt; ordered = tt; greatest = tt }
ends (a ∷ axes) c each =
    let rest = ends axes (c % cells_of axes) (All-tail IsAxis a axes each) in
    let x : ℤ = a.lo +ℤ (a.width *ℤ pos (c / cells_of axes)) in
    record {
      least = (same x, rest.least);
      ordered = (wide x a.width (All-head IsAxis a axes each).some_width, rest.ordered);
      greatest = (same (x +ℤ (a.width -ℤ pos 1)), rest.greatest);
    }

parts_states : (states : List StateVariable) (xs ys : List ℤ) → length xs ≡ length states → length ys ≡ length states → All IsFilledByCells states → IsInDomain (map axis_of states) xs → IsInDomain (map axis_of states) ys
    → ArePartsOf (ranges_between xs ys) (map (λ (s : StateVariable). record { lo = s.low; hi = s.high }) states)
parts_states [] [] [] m n whole low high = tt
parts_states (s ∷ states) (x ∷ xs) (y ∷ ys) m n whole low high =
    ((low.0, up_to y (end_of (axis_of s)) s.high high.1 (All-head IsFilledByCells s states whole)), parts_states states xs ys (omega (arith, m)) (omega (arith, n)) (All-tail IsFilledByCells s states whole) low.2 high.2)
parts_states _ _ _ m n whole low high = absurd (omega (arith, m, n))

between_in : (states : List StateVariable) (lows highs xs : List ℤ) → length lows ≡ length states → length highs ≡ length states → IsInBox (map axis_of states) lows highs xs → AreIn (ranges_between lows highs) (take (length states) xs)
between_in [] [] [] xs m n box = tt
between_in (s ∷ states) (l ∷ lows) (h ∷ highs) [] m n box = absurd box.0
between_in (s ∷ states) (l ∷ lows) (h ∷ highs) (x ∷ xs) m n box =
    ((box.0.0, box.1.0), between_in states lows highs xs (omega (arith, m)) (omega (arith, n)) (box.0.1, box.1.1))
between_in _ _ _ xs m n box = absurd (omega (arith, m, n))

-- ---- all variables

part_self : (area : List Interval) → ArePartsOf area area
part_self [] = tt
part_self (i ∷ area) = ((same i.lo, same i.hi), part_self area)

parts_append : (is js area wider : List Interval) → ArePartsOf is js → ArePartsOf area wider → ArePartsOf (is ++ area) (js ++ wider)
parts_append [] [] area wider h k = k
parts_append (i ∷ is) (j ∷ js) area wider h k = (h.0, parts_append is js area wider h.1 k)
parts_append _ _ area wider h k = absurd h

module _ (p : Description) (c u : ℕ) where
  pub low_count : length (low_of (axes_of p) c) ≡ length p.states
  low_count = omega (arith, length-low_of (axes_of p) c, length-map p.states axis_of)

  pub high_count : length (high_of (axes_of p) c) ≡ length p.states
  high_count = omega (arith, length-high_of (axes_of p) c, length-map p.states axis_of)

  pub cell_area_count : length (cell_area_of p c u) ≡ length (names_of p)
  cell_area_count =
      let states : length (ranges_between (low_of (axes_of p) c) (high_of (axes_of p) c)) ≡ length p.states = ranges_long (low_of (axes_of p) c) (high_of (axes_of p) c) (length p.states) low_count high_count in
      simp (length-append, length-map, vector_length, states)

  module _ (sound : IsSound p) where
    pub cell_intervals : All IsInterval (cell_area_of p c u)
    cell_intervals =
        All-append IsInterval _ _
        (All-append IsInterval _ _ (intervals_between (axes_of p) c sound.axes.each) (All-map IsInterval (λ v. record { lo = v; hi = v }) (vector_of p.inputs u) (λ k d lt. same _)))
        (All-map IsInterval (λ (w : NoiseVariable). record { lo = w.low; hi = w.high }) p.noises (All-weaker IsNoiseVariable (λ (w : NoiseVariable). w.low ≤ℤ w.high) (λ w h. h.ordered) p.noises sound.noises))

    pub cell_parts : c < cells_of (axes_of p) → ArePartsOf (cell_area_of p c u) (area_of p u)
    cell_parts below =
        let e = ends (axes_of p) c sound.axes.each in
        let low = (point_from_box (axes_of p) c (low_of (axes_of p) c) sound.axes.each below (e.least, e.ordered)).0 in
        let high = (point_from_box (axes_of p) c (high_of (axes_of p) c) sound.axes.each below (e.ordered, e.greatest)).0 in
        parts_append _ _ _ _
        (parts_append _ _ _ _ (parts_states p.states (low_of (axes_of p) c) (high_of (axes_of p) c) low_count high_count sound.whole low high) (part_self _))
        (part_self _)

    -- the values at a point of the cell
    pub cell_values_in : (x w : List ℤ) → IsPointOf (axes_of p) c x → IsNoise p.noises w → AreIn (cell_area_of p c u) (values_at p x u w)
    cell_values_in x w point noise =
        let box = box_from_point (axes_of p) c x sound.axes.each point in
        in_append _ _ _ _ (in_append _ _ _ _ (between_in p.states (low_of (axes_of p) c) (high_of (axes_of p) c) x low_count high_count box) (inputs_in (vector_of p.inputs u))) (noises_in p.noises w noise)

    -- and those at its centre
    pub cell_central_in : AreIn (cell_area_of p c u) (central_values p c u)
    cell_central_in =
        let box = centre_between (axes_of p) c sound.axes.each in
        in_append _ _ _ _
        (in_append _ _ _ _ (between_in p.states (low_of (axes_of p) c) (high_of (axes_of p) c) (centre_of (axes_of p) c) low_count high_count box) (inputs_in (vector_of p.inputs u)))
        (centres_in p.noises (map noise_centre p.noises ++ []) (centres_are_noise p.noises [] sound.noises))
