-- The middles of the indices along an axis, in 64 bits.
use Rattle.std.proofs.Common.{◌≡◌, ℕ, ◌+◌, ◌*◌, ◌/◌, ◌^◌, ◌<◌, ◌≤◌, length, get_or, w64, arith}
use Rattle.std.specs.Prelude.{ℤ, pos, negsuc, nat_abs, neg_ℤ, ◌+ℤ◌, ◌-ℤ◌, ◌*ℤ◌, ◌≤ℤ◌, FitsSigned}
use Rattle.std.specs.Int.{w128}
use Rattle.std.proofs.lemmas.Int.{ints}
use Rattle.std.proofs.lemmas.Nat.{mul-le}
use Rattle.std.proofs.lemmas.List.{length-map}
use Rattle.std.proofs.lemmas.List.Elements.{All-get_or}
use Rattle.base.specs.Narrow.{IsNarrow}
use Rattle.grid_quantiser.specs.declared.axis.Axis.{Axis}
use Rattle.grid_quantiser.specs.Axes.{IsAxis, no_axis}
use Rattle.grid_quantiser.specs.Cells.{radius_of}
use Rattle.grid_quantiser.specs.Indices.{middle_of}
use Rattle.plant_record.specs.Description.{Description, axis_of, axes_of}
use Rattle.plant_record.specs.Plants.{IsPlant}
use Rattle.plant_record.specs.Soundness.{IsSound}
use Rattle.plant_record.proofs.lemmas.SoundPlants.{sound as sound_plant}

pub axis_at : (p : Description) → IsSound p → (k : ℕ) → k < length p.states → IsAxis (get_or (axes_of p) k no_axis)
axis_at p sound k lt = All-get_or IsAxis (axes_of p) k no_axis (omega (arith, lt, length-map p.states axis_of)) sound.axes.each

-- a number between two literals is one
pub between_literals : (low high z : ℤ) → nat_abs low < 10 ^ 18 → nat_abs high < 10 ^ 18 → low ≤ℤ z → z ≤ℤ high → nat_abs z < 10 ^ 18
between_literals low high z h k below above = omega (arith, ints, h, k, below, above)

-- ---- bounds

-- indices before the last one
record AreSteps (width : ℤ) (count index : ℕ) : Type 0 where
  pub forward : pos 0 ≤ℤ (width *ℤ pos index)
  pub within : ((width *ℤ pos index) +ℤ width) ≤ℤ (width *ℤ pos count)

steps : (width : ℤ) (count index : ℕ) → pos 1 ≤ℤ width → index < count → AreSteps width count index
steps (negsuc w) count index some lt = absurd (omega (arith, ints, some))
steps (pos w) count index some lt =
    let more : (index + 1) * w ≤ count * w = mul-le (index + 1) w count w (omega (arith, lt)) (omega arith) in
    record { forward = omega (arith, ints); within = omega (arith, ints, more) }

radius_below : (width : ℤ) → pos 1 ≤ℤ width → pos (nat_abs width / 2) ≤ℤ (width -ℤ pos 1)
radius_below (negsuc w) some = absurd (omega (arith, ints, some))
radius_below (pos w) some = omega (arith, ints, some)

-- a middle, and what leads there from the first one, have room
pub record IsMiddle (a : Axis) (first width : ℤ) (index : ℕ) : Type 0 where
  pub way : IsNarrow (width *ℤ pos index)
  pub fits : IsNarrow (first +ℤ (width *ℤ pos index))
  pub is : first +ℤ (width *ℤ pos index) ≡ middle_of a index

pub middle_from : (a : Axis) (index : ℕ) (first width : ℤ) → IsAxis a → index < a.count → first ≡ middle_of a 0 → width ≡ a.width → IsMiddle a first width index
middle_from a index first width axis lt first-is width-is = rw (first-is, width-is) one
  where
    one : IsMiddle a (middle_of a 0) a.width index
    one =
        let s = steps a.width a.count index axis.some_width lt in
        let r = radius_below a.width axis.some_width in
        let low = axis.low_bound in
        let high : (a.lo +ℤ (a.width *ℤ pos a.count)) ≤ℤ pos (10 ^ 18) = axis.high_bound in
        let some = axis.some_width in
        record {
          way = (omega (arith, ints, s.forward), omega (arith, ints, s.forward, s.within, low, high, some));
          fits = (omega (arith, ints, s.forward, low), omega (arith, ints, s.forward, s.within, r, low, high, some));
          is = omega (arith, ints);
        }

-- The middle of the first index and the width of each have 64 bits, and the offsets of a cell's ends from its centre 128.
pub record HasRoom (a : Axis) : Type 0 where
  pub middle : FitsSigned w64 (middle_of a 0)
  pub width : FitsSigned w64 a.width
  pub back : FitsSigned w128 (neg_ℤ (radius_of a))
  pub last : FitsSigned w128 (a.width -ℤ pos 1)
  pub rest : FitsSigned w128 ((a.width -ℤ pos 1) -ℤ radius_of a)

pub room : (a : Axis) → IsAxis a → HasRoom a
room a is =
    let s = steps a.width a.count 0 is.some_width is.some_cell in
    let r = radius_below a.width is.some_width in
    let from = is.low_bound in
    let to : (a.lo +ℤ (a.width *ℤ pos a.count)) ≤ℤ pos (10 ^ 18) = is.high_bound in
    let some = is.some_width in
    record {
      middle = omega (arith, ints, s.within, r, from, to, some);
      width = omega (arith, ints, s.within, r, from, to, some);
      back = omega (arith, ints, s.within, r, from, to, some);
      last = omega (arith, ints, s.within, r, from, to, some);
      rest = omega (arith, ints, s.within, r, from, to, some);
    }

pub state_room : (p : Description) (k : ℕ) → IsPlant p → k < length p.states → HasRoom (get_or (axes_of p) k no_axis)
state_room p k plant lt = room (get_or (axes_of p) k no_axis) (axis_at p (sound_plant p plant) k lt)
