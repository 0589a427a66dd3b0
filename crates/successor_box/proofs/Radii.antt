-- No radius is below 0.
use Rattle.std.proofs.Common.{ℕ, All, arith}
use Rattle.std.specs.Prelude.{ℤ, pos, ◌-ℤ◌, ◌≤ℤ◌}
use Rattle.std.proofs.lemmas.Int.{ints}
use Rattle.std.proofs.lemmas.List.Elements.{All-append, All-map, All-weaker}
use Rattle.grid_quantiser.specs.Cells.{radius_of}
use Rattle.plant_record.specs.declared.variables.NoiseVariable.{NoiseVariable}
use Rattle.plant_record.specs.Description.{Description, axes_of, vector_of}
use Rattle.plant_record.specs.Variables.{IsNoiseVariable}
use Rattle.successor_box.specs.SuccessorBoxes.{noise_centre, radii_of}
use Rattle.successor_box.proofs.CellValues.{middle}

not_negative : (n : ℕ) → pos 0 ≤ℤ pos n
not_negative n = omega (arith, ints)

same : (z : ℤ) → z ≤ℤ z
same z = omega (arith, ints)

rest : (m high : ℤ) → m ≤ℤ high → pos 0 ≤ℤ (high -ℤ m)
rest m high h = omega (arith, ints, h)

noise_not_negative : (w : NoiseVariable) → IsNoiseVariable w → pos 0 ≤ℤ (w.high -ℤ noise_centre w)
noise_not_negative w h = rest (noise_centre w) w.high (middle w.low w.high w.low (same w.low) h.ordered).below_high

pub radii_not_negative : (p : Description) (u : ℕ) → All IsNoiseVariable p.noises → All (λ r. pos 0 ≤ℤ r) (radii_of p u)
radii_not_negative p u noises =
    All-append (λ r. pos 0 ≤ℤ r) _ _
    (All-append (λ r. pos 0 ≤ℤ r) _ _
    (All-map (λ r. pos 0 ≤ℤ r) radius_of (axes_of p) (λ k d lt. not_negative _))
    (All-map (λ r. pos 0 ≤ℤ r) (λ (_ : ℤ). pos 0) (vector_of p.inputs u) (λ k d lt. not_negative 0)))
    (All-map (λ r. pos 0 ≤ℤ r) (λ (w : NoiseVariable). w.high -ℤ noise_centre w) p.noises (All-weaker IsNoiseVariable (λ w. pos 0 ≤ℤ (w.high -ℤ noise_centre w)) noise_not_negative p.noises noises))
