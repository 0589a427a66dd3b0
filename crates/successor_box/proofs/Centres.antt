-- The step from the centre of a cell, at the centres of the noises.
use Rattle.std.proofs.Common.{◌≡◌, ℕ, suc, ◌-◌, ◌%◌, ◌<◌, ◌≤◌, List, [], ◌∷◌, ◌++◌, length, map, replicate, refl, ap, ap₂, arith}
use Rattle.std.specs.Prelude.{ℤ, pos, ◌+ℤ◌, ◌-ℤ◌, ◌≤ℤ◌}
use Rattle.std.proofs.lemmas.Int.{ints}
use Rattle.std.proofs.lemmas.List.{length-map, take-append-le}
use Rattle.fixed_expr.specs.Range.{IsInRange}
use Rattle.fixed_expr.specs.Expression.{Expression, NumExpr}
use Rattle.fixed_expr.specs.Value.{value_of}
use Rattle.interval_eval.specs.declared.interval.Interval.{Interval}
use Rattle.interval_eval.proofs.SpanLaws.{numbers_lie_in_range, values_lie_in_spans}
use Rattle.growth_bound.specs.Deviation.{deviation_of}
use Rattle.grid_quantiser.specs.declared.axis.Axis.{Axis}
use Rattle.grid_quantiser.specs.Axes.{cells_of}
use Rattle.grid_quantiser.specs.Cells.{centre_of, point_of}
use Rattle.interval_eval.specs.Span.{span_of}
use Rattle.plant_record.specs.Description.{Description, axis_of, axes_of, vectors_of, vector_of}
use Rattle.plant_record.specs.Steps.{values_at, equation_at}
use Rattle.plant_record.specs.Soundness.{IsSound}
use Rattle.plant_record.proofs.lemmas.VariableValues.{values_count}
use Rattle.successor_box.specs.SuccessorBoxes.{noise_centre, area_of, radii_of, deviation_at, central_values}
use Rattle.successor_box.specs.Deviations.{HasNoOverflow}
use Rattle.successor_box.specs.inside.Area.{variables_of}
use Rattle.successor_box.proofs.Below.{centres_are_near}
use Rattle.successor_box.proofs.CellValues.{centres_are_noise, central_in}
use Rattle.successor_box.proofs.Steps.{formed_over}

pub centre_count : (axes : List Axis) (c : ℕ) → length (centre_of axes c) ≡ length axes
centre_count [] c = refl
centre_count (a ∷ axes) c = ap suc (centre_count axes (c % cells_of axes))

pub centre_enough : (p : Description) (c : ℕ) → length p.states ≤ length (centre_of (axes_of p) c)
centre_enough p c = omega (arith, centre_count (axes_of p) c, length-map p.states axis_of)

pub central_count : (p : Description) (c u : ℕ) → length (central_values p c u) ≡ variables_of p
central_count p c u = values_count p (centre_of (axes_of p) c) (map noise_centre p.noises) u (centre_enough p c) (omega (arith, length-map p.noises noise_centre))

-- what lies past the states and the noises is not looked at
pub central_list : (p : Description) (c u : ℕ) → values_at p (point_of (centre_of (axes_of p) c)) u (point_of (map noise_centre p.noises)) ≡ central_values p c u
central_list p c u =
    let noises : length p.noises ≤ length (map noise_centre p.noises) = omega (arith, length-map p.noises noise_centre) in
    let xs : List ℤ = centre_of (axes_of p) c in
    let ws : List ℤ = map noise_centre p.noises in
    ap₂ (λ (front back : List ℤ). front ++ vector_of p.inputs u ++ back) (take-append-le (length p.states) xs (replicate (6 - length xs) (pos 0)) (centre_enough p c)) (take-append-le (length p.noises) ws (replicate (6 - length ws) (pos 0)) noises)

ends_between : (lo hi v : ℤ) (d : ℕ) → IsInRange (lo -ℤ pos d) → IsInRange (hi +ℤ pos d) → lo ≤ℤ v → v ≤ℤ hi → IsInRange (v -ℤ pos d) × IsInRange (v +ℤ pos d)
ends_between lo hi v d low high below above =
    let whole : Interval = record { lo = lo -ℤ pos d; hi = hi +ℤ pos d } in (
      numbers_lie_in_range whole (v -ℤ pos d) (low, high) (omega (arith, ints, below), omega (arith, ints, above)),
      numbers_lie_in_range whole (v +ℤ pos d) (low, high) (omega (arith, ints, below), omega (arith, ints, above)),
    )

-- the ends of the growth bound lie in the range
pub ends_fit : (p : Description) → IsSound p → HasNoOverflow p → (c u i : ℕ) → c < cells_of (axes_of p) → u < vectors_of p.inputs → i < length p.equations
    → IsInRange (value_of (equation_at p i) (central_values p c u) -ℤ deviation_at p u (equation_at p i)) × IsInRange (value_of (equation_at p i) (central_values p c u) +ℤ deviation_at p u (equation_at p i))
ends_fit p sound fits c u i cell input lt =
    let e : Expression = equation_at p i in
    let inside = central_in p c u [] (map noise_centre p.noises ++ []) (centres_are_noise p.noises [] sound.noises) sound.whole (centres_are_near (axes_of p) c sound.axes cell).0.0 in
    let value = values_lie_in_spans e (area_of p u) (central_values p c u) (formed_over p u sound i (NumExpr (pos 0)) lt) inside in
    let f = fits i u lt input in
    ends_between (span_of e (area_of p u)).lo (span_of e (area_of p u)).hi (value_of e (central_values p c u)) (deviation_of e (area_of p u) (radii_of p u)) f.low_end f.high_end value.0 value.1
