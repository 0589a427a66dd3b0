-- Successor boxes: the step of a cell's centre, enlarged by the growth bound of the cell's radius, and in version 2 met with
-- the spans over the cell.
use Rattle.std.specs.Prelude.{◌≡◌, ℕ, ℤ, pos, ◌+ℤ◌, ◌-ℤ◌, ◌↔◌, List, [], ◌∷◌, ◌++◌, map, Option, Some, None, IsSome, IfSome}
use Rattle.std.specs.Int.{int_min, int_max}
use Rattle.fixed_expr.specs.DivExpr.{floor_div}
use Rattle.fixed_expr.specs.Expression.{Expression}
use Rattle.fixed_expr.specs.Value.{value_of}
use Rattle.interval_eval.specs.declared.interval.Interval.{Interval}
use Rattle.interval_eval.specs.Span.{span_of}
use Rattle.growth_bound.specs.Deviation.{deviation_of}
use Rattle.grid_quantiser.specs.declared.axis.Axis.{Axis}
use Rattle.grid_quantiser.specs.declared.boxes.CellBox.{CellBox}
use Rattle.grid_quantiser.specs.Cells.{low_of, high_of, centre_of, radius_of}
use Rattle.grid_quantiser.specs.CellBoxes.{IsBoxInDomain, AreCellsMeeting, AreCornersMeeting, cells_between}
use Rattle.plant_record.specs.declared.variables.StateVariable.{StateVariable}
use Rattle.plant_record.specs.declared.variables.NoiseVariable.{NoiseVariable}
use Rattle.plant_record.specs.declared.version.PlantVersion.{PlantVersion}
use Rattle.plant_record.specs.declared.version.PlantVersion.TheVariants.{One, Two}
use Rattle.plant_record.specs.Description.{Description, axes_of, vector_of}
use Rattle.plant_record.specs.Steps.{values_at}

-- the middle of a noise's range, rounded down
abbrev pub noise_centre : NoiseVariable → ℤ
noise_centre w = floor_div (w.low +ℤ w.high) (pos 2)

-- the ranges of the variables: the whole domain, the input's values alone, and the noises' ranges
abbrev pub area_of : Description → ℕ → List Interval
area_of p u =
    map (λ (s : StateVariable). record { lo = s.low; hi = s.high }) p.states
    ++ map (λ v. record { lo = v; hi = v }) (vector_of p.inputs u)
    ++ map (λ (w : NoiseVariable). record { lo = w.low; hi = w.high }) p.noises

-- the ranges between two lists of ends
abbrev pub ranges_between : List ℤ → List ℤ → List Interval
ranges_between (l ∷ lows) (h ∷ highs) = record { lo = l; hi = h } ∷ ranges_between lows highs
ranges_between _ _ = []

-- the ranges of the variables, the states lying between two points
abbrev pub area_between : Description → List ℤ → List ℤ → ℕ → List Interval
area_between p lows highs u =
    ranges_between lows highs
    ++ map (λ v. record { lo = v; hi = v }) (vector_of p.inputs u)
    ++ map (λ (w : NoiseVariable). record { lo = w.low; hi = w.high }) p.noises

-- the ranges of the variables over a cell: its own numbers, the input's values alone, and the noises' ranges
abbrev pub cell_area_of : Description → ℕ → ℕ → List Interval
cell_area_of p c u = area_between p (low_of (axes_of p) c) (high_of (axes_of p) c) u

-- the radii of the variables: of a cell, of an input, which is 0, and of a noise
abbrev pub radii_of : Description → ℕ → List ℤ
radii_of p u =
    map radius_of (axes_of p)
    ++ map (λ _. pos 0) (vector_of p.inputs u)
    ++ map (λ (w : NoiseVariable). w.high -ℤ noise_centre w) p.noises

-- how far an equation moves within a cell, under an input vector
abbrev pub deviation_at : Description → ℕ → Expression → ℤ
deviation_at p u e = pos (deviation_of e (area_of p u) (radii_of p u))

-- the values of the variables at a cell's centre and the noises' centres
abbrev pub central_values : Description → ℕ → ℕ → List ℤ
central_values p c u = values_at p (centre_of (axes_of p) c) u (map noise_centre p.noises)

-- the value at the cell's centre, less and plus how far it moves within the cell
abbrev pub growth_of : Description → ℕ → ℕ → Expression → Interval
growth_of p c u e = record {
  lo = value_of e (central_values p c u) -ℤ deviation_at p u e;
  hi = value_of e (central_values p c u) +ℤ deviation_at p u e;
}

-- what two intervals have in common
abbrev pub intersection_of : Interval → Interval → Interval
intersection_of a b = record { lo = int_max a.lo b.lo; hi = int_min a.hi b.hi }

-- where an equation leads from a cell under an input: version 2 meets the growth bound with the span over the cell
abbrev pub next_interval_of : PlantVersion → Description → ℕ → ℕ → Expression → Interval
next_interval_of One p c u e = growth_of p c u e
next_interval_of Two p c u e = intersection_of (growth_of p c u e) (span_of e (cell_area_of p c u))

-- the lower ends of the successor box, one for each state
abbrev pub low_corner : Description → ℕ → ℕ → List ℤ
low_corner p c u = map (λ e. (next_interval_of p.version p c u e).lo) p.equations

-- the upper ends of the successor box, one for each state
abbrev pub high_corner : Description → ℕ → ℕ → List ℤ
high_corner p c u = map (λ e. (next_interval_of p.version p c u e).hi) p.equations

-- the successor box of a cell under an input lies in the domain
abbrev pub IsEnabledAt : Description → ℕ → ℕ → Type 0
IsEnabledAt p c u = IsBoxInDomain (axes_of p) (low_corner p c u) (high_corner p c u)

-- The successors of a cell under an input: the cells that meet the box, where it lies in the domain.
pub record AreSuccessors (p : Description) (c u : ℕ) (cells : List ℕ) : Type 0 where
  pub enabled : IsEnabledAt p c u → AreCellsMeeting (axes_of p) (low_corner p c u) (high_corner p c u) cells
  pub disabled : (IsEnabledAt p c u → ⊥) → cells ≡ []

-- The box of a cell under an input: the corners of the cells that meet the successor box, or none where it
-- leaves the domain.
pub record IsBoxOf (p : Description) (c u : ℕ) (b : Option CellBox) : Type 0 where
  pub inside : IsSome b ↔ IsEnabledAt p c u
  pub corners : IfSome b (λ b. AreCornersMeeting (axes_of p) (low_corner p c u) (high_corner p c u) b.first b.last)

-- the cells of a box, or none
abbrev pub cells_in : List Axis → Option CellBox → List ℕ
cells_in axes None = []
cells_in axes (Some b) = cells_between axes b.first b.last
