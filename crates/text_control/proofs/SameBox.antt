-- A successor box depends on the values of the input vector alone.
use Rattle.std.proofs.Common.{◌≡◌, ℕ, List, ◌++◌, map, length, take, Option, ap, subst₂}
use Rattle.std.specs.Prelude.{ℤ, pos, ◌+ℤ◌, ◌-ℤ◌, ◌↔◌, IsSome, IfSome}
use Rattle.fixed_expr.specs.Expression.{Expression}
use Rattle.fixed_expr.specs.Value.{value_of}
use Rattle.interval_eval.specs.declared.interval.Interval.{Interval}
use Rattle.interval_eval.specs.Span.{span_of}
use Rattle.growth_bound.specs.Deviation.{deviation_of}
use Rattle.grid_quantiser.specs.declared.boxes.CellBox.{CellBox}
use Rattle.grid_quantiser.specs.Cells.{low_of, high_of, centre_of, radius_of}
use Rattle.grid_quantiser.specs.CellBoxes.{IsBoxInDomain, AreCornersMeeting}
use Rattle.plant_record.specs.declared.variables.StateVariable.{StateVariable}
use Rattle.plant_record.specs.declared.variables.NoiseVariable.{NoiseVariable}
use Rattle.plant_record.specs.declared.version.PlantVersion.{PlantVersion}
use Rattle.plant_record.specs.declared.version.PlantVersion.TheVariants.{One, Two}
use Rattle.plant_record.specs.Description.{Description, axes_of, vector_of}
use Rattle.successor_box.specs.SuccessorBoxes.{noise_centre, ranges_between, intersection_of, next_interval_of, low_corner, high_corner, IsBoxOf}

module _ (p : Description) (c : ℕ) where
  abbrev centre_by : List ℤ → Expression → ℤ
  centre_by z e = value_of e (take (length p.states) (centre_of (axes_of p) c) ++ z ++ take (length p.noises) (map noise_centre p.noises))

  abbrev far_by : List ℤ → Expression → ℤ
  far_by z e =
      pos (deviation_of e (map (λ (s : StateVariable). record { lo = s.low; hi = s.high }) p.states ++ map (λ v. record { lo = v; hi = v }) z ++ map (λ (w : NoiseVariable). record { lo = w.low; hi = w.high }) p.noises) (map radius_of (axes_of p) ++ map (λ _. pos 0) z ++ map (λ (w : NoiseVariable). w.high -ℤ noise_centre w) p.noises))

  abbrev growth_by : List ℤ → Expression → Interval
  growth_by z e = record { lo = centre_by z e -ℤ far_by z e; hi = centre_by z e +ℤ far_by z e }

  abbrev next_by : PlantVersion → List ℤ → Expression → Interval
  next_by One z e = growth_by z e
  next_by Two z e = intersection_of (growth_by z e) (span_of e (ranges_between (low_of (axes_of p) c) (high_of (axes_of p) c) ++ map (λ v. record { lo = v; hi = v }) z ++ map (λ (w : NoiseVariable). record { lo = w.low; hi = w.high }) p.noises))

  same_lows : (v : PlantVersion) (u w : ℕ) → vector_of p.inputs u ≡ vector_of p.inputs w → map (λ e. (next_interval_of v p c u e).lo) p.equations ≡ map (λ e. (next_interval_of v p c w e).lo) p.equations
  same_lows One u w same = ap (λ (z : List ℤ). map (λ e. (next_by One z e).lo) p.equations) same
  same_lows Two u w same = ap (λ (z : List ℤ). map (λ e. (next_by Two z e).lo) p.equations) same

  same_highs : (v : PlantVersion) (u w : ℕ) → vector_of p.inputs u ≡ vector_of p.inputs w → map (λ e. (next_interval_of v p c u e).hi) p.equations ≡ map (λ e. (next_interval_of v p c w e).hi) p.equations
  same_highs One u w same = ap (λ (z : List ℤ). map (λ e. (next_by One z e).hi) p.equations) same
  same_highs Two u w same = ap (λ (z : List ℤ). map (λ e. (next_by Two z e).hi) p.equations) same

  pub same_box : (u w : ℕ) (b : Option CellBox) → vector_of p.inputs u ≡ vector_of p.inputs w → IsBoxOf p c u b → IsBoxOf p c w b
  same_box u w b same h =
      let low : low_corner p c u ≡ low_corner p c w = same_lows p.version u w same in
      let high : high_corner p c u ≡ high_corner p c w = same_highs p.version u w same in
      record {
        inside = subst₂ (λ (l h : List ℤ). IsSome b ↔ IsBoxInDomain (axes_of p) l h) low high h.inside;
        corners = subst₂ (λ (l h : List ℤ). IfSome b (λ b. AreCornersMeeting (axes_of p) l h b.first b.last)) low high h.corners;
      }
