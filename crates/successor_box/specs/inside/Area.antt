-- The ranges and the radii of a plant's variables, in arrays that are longer.
use Rattle.std.specs.Prelude.{◌≡◌, ℕ, ◌+◌, ◌<◌, ℤ, pos, neg_ℤ, ◌+ℤ◌, ◌-ℤ◌, List, ◌++◌, length, map, slice_index_or, take}
use Rattle.interval_eval.specs.declared.interval.Interval.{Interval}
use Rattle.grid_quantiser.specs.declared.axis.Axis.{Axis}
use Rattle.grid_quantiser.specs.Axes.{no_axis}
use Rattle.grid_quantiser.specs.Cells.{radius_of}
use Rattle.plant_record.specs.declared.variables.NoiseVariable.{NoiseVariable}
use Rattle.plant_record.specs.Description.{Description, axes_of, vectors_of, vector_of}
use Rattle.successor_box.specs.declared.slope_fault.SlopeFault.{SlopeFault}
use Rattle.successor_box.specs.declared.slope_fault.SlopeFault.TheVariants.{Overflow, Memory}
use Rattle.successor_box.specs.SuccessorBoxes.{noise_centre, area_of, area_between, radii_of}
use Rattle.successor_box.specs.Deviations.{HasNoOverflowAt}

-- how many variables a plant has
abbrev pub variables_of : Description → ℕ
variables_of p = length p.states + length p.inputs + length p.noises

-- the axis of a state
abbrev pub axis_along : Description → ℕ → Axis
axis_along p i = slice_index_or (axes_of p) i no_axis

-- the interval that has 0 alone
abbrev pub no_range : Interval
no_range = record { lo = pos 0; hi = pos 0 }

-- the front of the array is the area under an input vector
abbrev pub IsArea : Description → ℕ → List Interval → Type 0
IsArea p u area = take (variables_of p) area ≡ area_of p u

-- the ranges of the variables, the states lying between two points, which may have more numbers
abbrev pub area_from : Description → List ℤ → List ℤ → ℕ → List Interval
area_from p low high u = area_between p (take (length p.states) low) (take (length p.states) high) u

-- the ends of a noise's range, less its centre
abbrev pub noise_offset : NoiseVariable → Interval
noise_offset w = record { lo = w.low -ℤ noise_centre w; hi = w.high -ℤ noise_centre w }

-- the ends of the ranges over a cell, less the values at its centre
abbrev pub offsets_of : Description → ℕ → List Interval
offsets_of p u =
    map (λ (a : Axis). record { lo = neg_ℤ (radius_of a); hi = (a.width -ℤ pos 1) -ℤ radius_of a }) (axes_of p)
    ++ map (λ _. no_range) (vector_of p.inputs u)
    ++ map noise_offset p.noises

-- an interval shifted by a number
abbrev pub shifted_to : ℤ → Interval → Interval
shifted_to x o = record { lo = x +ℤ o.lo; hi = x +ℤ o.hi }

-- the front of the array is the radii, under each input vector
abbrev pub AreRadii : Description → List ℤ → Type 0
AreRadii p radii = (u : ℕ) → take (variables_of p) radii ≡ radii_of p u

-- what an overflow of one equation says
abbrev pub IsOverflowAlong : Description → ℕ → SlopeFault → Type 0
IsOverflowAlong p i (Overflow j u) = (j ≡ i) × (u < vectors_of p.inputs) × (HasNoOverflowAt p i u → ⊥) × ((v : ℕ) → v < u → HasNoOverflowAt p i v)
IsOverflowAlong p i Memory = Unit {0}
