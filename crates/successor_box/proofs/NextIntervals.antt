-- Where an equation leads from a cell: the value at the centre lies there, and so does that at each point of the cell.
use Rattle.std.proofs.Common.{◌≡◌, ℕ, List, length, sym, ap, ap₂, subst, ◌∙◌, arith}
use Rattle.std.specs.Prelude.{ℤ, pos, ◌+ℤ◌, ◌-ℤ◌, ◌≤ℤ◌}
use Rattle.std.proofs.lemmas.Int.{ints, clamps}
use Rattle.fixed_expr.specs.Expression.{Expression}
use Rattle.fixed_expr.specs.Value.{IsWellFormed, value_of}
use Rattle.interval_eval.specs.declared.interval.Interval.{Interval}
use Rattle.interval_eval.specs.Span.{IsIn, span_of}
use Rattle.interval_eval.proofs.SpanLaws.{values_lie_in_spans}
use Rattle.growth_bound.specs.Deviation.{IsNear, deviation_of}
use Rattle.grid_quantiser.specs.Cells.{IsPointOf}
use Rattle.plant_record.specs.declared.version.PlantVersion.{PlantVersion}
use Rattle.plant_record.specs.declared.version.PlantVersion.TheVariants.{One, Two}
use Rattle.plant_record.specs.Description.{Description, axes_of, names_of}
use Rattle.plant_record.specs.Steps.{IsNoise, values_at}
use Rattle.plant_record.specs.Soundness.{IsSound}
use Rattle.successor_box.specs.SuccessorBoxes.{area_of, radii_of, cell_area_of, deviation_at, central_values, growth_of, intersection_of, next_interval_of}
use Rattle.successor_box.proofs.CellAreas.{cell_area_count, cell_values_in, cell_central_in}

about : (v : ℤ) (d : ℕ) → ((v -ℤ pos d) ≤ℤ v) × (v ≤ℤ (v +ℤ pos d))
about v d = (omega (arith, ints), omega (arith, ints))

near_about : (v z d : ℤ) → IsNear d v z → ((v -ℤ d) ≤ℤ z) × (z ≤ℤ (v +ℤ d))
near_about v z d near = (omega (arith, ints, near.0), omega (arith, ints, near.1))

in_intersection : (a b : Interval) (z : ℤ) → IsIn a z → IsIn b z → IsIn (intersection_of a b) z
in_intersection a b z h k = (omega (arith, ints, clamps, h.0, k.0), omega (arith, ints, clamps, h.1, k.1))

-- the ends of a growth bound
pub growth_is : (p : Description) (c u : ℕ) (e : Expression) (x : ℤ) (r : Interval) → x ≡ value_of e (central_values p c u) → r.lo ≡ x -ℤ deviation_at p u e → r.hi ≡ x +ℤ deviation_at p u e → r ≡ growth_of p c u e
growth_is p c u e x r is low high =
    ap₂ (λ (l h : ℤ). record { lo = l; hi = h }) (low ∙ ap (λ (z : ℤ). z -ℤ deviation_at p u e) is) (high ∙ ap (λ (z : ℤ). z +ℤ deviation_at p u e) is)

module _ (p : Description) (c u : ℕ) (sound : IsSound p) (e : Expression) (formed : IsWellFormed e (length (names_of p))) where
  over_cell : IsWellFormed e (length (cell_area_of p c u))
  over_cell = subst (λ (n : ℕ). IsWellFormed e n) (sym (cell_area_count p c u)) formed

  pub centre_reached : (version : PlantVersion) → IsIn (next_interval_of version p c u e) (value_of e (central_values p c u))
  centre_reached One = about (value_of e (central_values p c u)) (deviation_of e (area_of p u) (radii_of p u))
  centre_reached Two =
      in_intersection (growth_of p c u e) (span_of e (cell_area_of p c u)) (value_of e (central_values p c u))
      (about (value_of e (central_values p c u)) (deviation_of e (area_of p u) (radii_of p u)))
      (values_lie_in_spans e (cell_area_of p c u) (central_values p c u) over_cell (cell_central_in p c u sound))

  pub point_reached : (version : PlantVersion) (x w : List ℤ) → IsPointOf (axes_of p) c x → IsNoise p.noises w → IsNear (deviation_at p u e) (value_of e (central_values p c u)) (value_of e (values_at p x u w)) → IsIn (next_interval_of version p c u e) (value_of e (values_at p x u w))
  point_reached One x w point noise near = near_about (value_of e (central_values p c u)) (value_of e (values_at p x u w)) (deviation_at p u e) near
  point_reached Two x w point noise near =
      in_intersection (growth_of p c u e) (span_of e (cell_area_of p c u)) (value_of e (values_at p x u w))
      (near_about (value_of e (central_values p c u)) (value_of e (values_at p x u w)) (deviation_at p u e) near)
      (values_lie_in_spans e (cell_area_of p c u) (values_at p x u w) over_cell (cell_values_in p c u sound x w point noise))
