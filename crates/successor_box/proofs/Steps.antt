-- Steps lie in the successor boxes, and stay in the range.
use Rattle.std.proofs.Common.{ℕ, ◌<◌, ◌≤◌, List, [], ◌∷◌, All, length, map, get_or, sym, subst, arith}
use Rattle.std.specs.Prelude.{ℤ}
use Rattle.std.specs.List.{Contains}
use Rattle.std.proofs.lemmas.List.{length-map}
use Rattle.std.proofs.lemmas.List.Elements.{All-head, All-tail, All-weaker, All-from_get_or}
use Rattle.fixed_expr.specs.Expression.{Expression, NumExpr}
use Rattle.fixed_expr.specs.Value.{IsWellFormed, value_of, StaysInRange}
use Rattle.interval_eval.specs.declared.interval.Interval.{Interval}
use Rattle.interval_eval.specs.Span.{IsIn}
use Rattle.interval_eval.proofs.SpanLaws.{values_stay_in_range}
use Rattle.growth_bound.proofs.Laws.{values_move_by_deviations}
use Rattle.grid_quantiser.specs.declared.axis.Axis.{Axis}
use Rattle.grid_quantiser.specs.Axes.{cells_of}
use Rattle.grid_quantiser.specs.Cells.{IsInDomain, IsPointOf, cell_of}
use Rattle.grid_quantiser.specs.CellBoxes.{IsInBox}
use Rattle.plant_record.specs.Description.{Description, axis_of, axes_of, names_of, vectors_of}
use Rattle.plant_record.specs.Steps.{IsNoise, step_of, values_at, StepStaysInRange}
use Rattle.plant_record.specs.Soundness.{IsSound}
use Rattle.successor_box.specs.SuccessorBoxes.{IsEnabledAt, AreSuccessors, area_of, radii_of, central_values, next_interval_of, low_corner, high_corner}
use Rattle.successor_box.specs.Deviations.{HasNoOverflow}
use Rattle.successor_box.proofs.BoxDomains.{box_inside, cell_touches}
use Rattle.successor_box.proofs.Below.{centres_are_near}
use Rattle.successor_box.proofs.NextIntervals.{point_reached}
use Rattle.successor_box.proofs.CellValues.{area_count, values_in, central_in, values_near}

-- values in their intervals lie between the corners
in_corners : (next_interval : Expression → Interval) (to : Expression → ℤ) (axes : List Axis) (es : List Expression) → length axes ≤ length es → All (λ e. IsIn (next_interval e) (to e)) es
    → IsInBox axes (map (λ e. (next_interval e).lo) es) (map (λ e. (next_interval e).hi) es) (map to es)
in_corners next_interval to [] es long each = (tt, tt)
in_corners next_interval to (a ∷ axes) [] long each = absurd (omega (arith, long))
in_corners next_interval to (a ∷ axes) (e ∷ es) long each =
    let here = All-head (λ e. IsIn (next_interval e) (to e)) e es each in
    let rest = in_corners next_interval to axes es (omega (arith, long)) (All-tail (λ e. IsIn (next_interval e) (to e)) e es each) in
    ((here.0, rest.0), (here.1, rest.1))

pub formed_over : (p : Description) (u : ℕ) → IsSound p → All (λ e. IsWellFormed e (length (area_of p u))) p.equations
formed_over p u sound = subst (λ (n : ℕ). All (λ e. IsWellFormed e n) p.equations) (sym (area_count p u)) sound.formed

module _ (p : Description) (c u : ℕ) (x w : List ℤ) (sound : IsSound p) (below : c < cells_of (axes_of p)) (point : IsPointOf (axes_of p) c x) (noise : IsNoise p.noises w) where
  abbrev Reached : Expression → Type 0
  Reached e = IsIn (next_interval_of p.version p c u e) (value_of e (values_at p x u w))

  reached : (e : Expression) → IsWellFormed e (length (names_of p)) → Reached e
  reached e formed =
      let centre = centres_are_near (axes_of p) c sound.axes below in
      let over : IsWellFormed e (length (area_of p u)) = subst (λ (n : ℕ). IsWellFormed e n) (sym (area_count p u)) formed in
      point_reached p c u sound e formed p.version x w point noise
      (values_move_by_deviations e (area_of p u) (radii_of p u) (central_values p c u) (values_at p x u w) over (central_in p c u x w noise sound.whole centre.0.0) (values_in p c u x w noise sound.whole point.0) (values_near p c u x w noise (centre.1 x point)))

  -- the step lies between the corners
  step_in_box : IsInBox (axes_of p) (low_corner p c u) (high_corner p c u) (step_of p x u w)
  step_in_box =
      in_corners (next_interval_of p.version p c u) (λ e. value_of e (values_at p x u w)) (axes_of p) p.equations (omega (arith, sound.one_each, length-map p.states axis_of))
      (All-weaker (λ e. IsWellFormed e (length (names_of p))) Reached reached p.equations sound.formed)

  pub step_among : IsEnabledAt p c u → IsInDomain (axes_of p) (step_of p x u w) × ((cells : List ℕ) → AreSuccessors p c u cells → Contains cells (cell_of (axes_of p) (step_of p x u w)))
  step_among enabled =
      let inside = box_inside (axes_of p) (low_corner p c u) (high_corner p c u) (step_of p x u w) enabled step_in_box in
      (inside, (λ cells successors. ((successors.enabled enabled).exactly (cell_of (axes_of p) (step_of p x u w))).1 (cell_touches (axes_of p) (low_corner p c u) (high_corner p c u) (step_of p x u w) inside step_in_box)))

pub step_stays : (p : Description) (u : ℕ) (x w : List ℤ) → IsSound p → HasNoOverflow p → u < vectors_of p.inputs → IsInDomain (axes_of p) x → IsNoise p.noises w → StepStaysInRange p x u w
step_stays p u x w sound fits input inside noise =
    All-from_get_or (λ e. StaysInRange e (values_at p x u w)) p.equations (NumExpr _) (λ i lt.
    values_stay_in_range (get_or p.equations i (NumExpr _)) (area_of p u) (values_at p x u w) (formed_over p u sound i (NumExpr _) lt) (values_in p 0 u x w noise sound.whole inside) (fits i u lt input).span)
