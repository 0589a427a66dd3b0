-- The grid of the states.
use Rattle.std.proofs.Common.{◌≡◌, ℕ, ◌^◌, ◌<◌, ◌≤◌, List, length, take, refl, sym, ap, ◌∙◌, arith}
use Rattle.std.specs.Prelude.{ℤ, pos, negsuc, neg_ℤ, nat_abs, map, ◌+ℤ◌, ◌-ℤ◌, ◌<ℤ◌}
use Rattle.std.proofs.lemmas.Int.{ints}
use Rattle.std.specs.List.{All}
use Rattle.std.proofs.lemmas.List.{length-map, take_all}
use Rattle.std.proofs.lemmas.List.Elements.{All-map, All-weaker}
use Rattle.grid_quantiser.specs.declared.axis.Axis.{Axis}
use Rattle.grid_quantiser.specs.Axes.{IsAxis, AreAxes, end_of}
use Rattle.plant_record.specs.declared.variables.StateVariable.{StateVariable}
use Rattle.line_words.specs.Numbers.{IsLiteral}
use Rattle.plant_record.specs.Description.{axis_of}
use Rattle.plant_record.specs.Variables.{IsStateVariable}
use Rattle.plant_record.proofs.lemmas.Numbers.{positive, whole_end, some_count}

-- the numbers within 10^18
pub literal_bounds : (z : ℤ) → IsLiteral z → (neg_ℤ (pos (10 ^ 18)) <ℤ z) × (z <ℤ pos (10 ^ 18))
literal_bounds (pos n) lt = (omega (arith, ints), omega (arith, ints))
literal_bounds (negsuc n) lt = (omega (arith, ints), omega (arith, ints))

-- a state's cells end right past its greatest number
pub end_is : (s : StateVariable) → IsStateVariable s → end_of (axis_of s) ≡ s.high +ℤ pos 1
end_is s h =
    let d : ℤ = (s.high -ℤ s.low) +ℤ pos 1 in
    let width-is : s.width ≡ pos (nat_abs s.width) = positive s.width (omega (arith, ints, h.some_width)) in
    let d-is : d ≡ pos (nat_abs d) = positive d (omega (arith, ints, h.ordered)) in
    let w-some : 0 < nat_abs s.width = omega (arith, ints, h.some_width, width-is) in
    whole_end s.low s.high s.width d (nat_abs d) (nat_abs s.width) width-is d-is refl w-some h.whole_cells

pub axis_is : (s : StateVariable) → IsStateVariable s → IsAxis (axis_of s)
axis_is s h =
    let d : ℤ = (s.high -ℤ s.low) +ℤ pos 1 in
    let width-is : s.width ≡ pos (nat_abs s.width) = positive s.width (omega (arith, ints, h.some_width)) in
    let d-is : d ≡ pos (nat_abs d) = positive d (omega (arith, ints, h.ordered)) in
    let w-some : 0 < nat_abs s.width = omega (arith, ints, h.some_width, width-is) in
    let n-some : 0 < nat_abs d = omega (arith, ints, h.ordered, d-is) in
    record {
      some_width = h.some_width;
      some_cell = some_count (nat_abs d) (nat_abs s.width) n-some w-some h.whole_cells;
      low_bound = (literal_bounds s.low h.low).0;
      high_bound = rw (end_is s h) (omega (arith, ints, (literal_bounds s.high h.high).1));
    }

pub axes_are : (states : List StateVariable) → 1 ≤ length states → length states ≤ 6 → All IsStateVariable states → AreAxes (map axis_of states)
axes_are states some few each = record {
  some_state = omega (arith, some, length-map states axis_of);
  states_bound = omega (arith, few, length-map states axis_of);
  each = All-map IsAxis axis_of states (All-weaker IsStateVariable (λ s. IsAxis (axis_of s)) axis_is states each);
}

pub axes_made : (states : List StateVariable) (axes : List Axis) (i : ℕ) → i ≡ length states → take i axes ≡ map axis_of (take i states) → take (length states) axes ≡ map axis_of states
axes_made states axes i all made =
    ap (λ n. take n axes) (sym all) ∙ made ∙ ap (map axis_of) (take_all i states (omega (arith, all)))
