use Rattle.std.proofs.Common.{◌≡◌, ℕ, ◌+◌, ◌-◌, ◌*◌, ◌<◌, ◌≤◌, drop, length, refl, ap, subst, arith}
use Rattle.std.proofs.lemmas.Nat.{mul-le}
use Rattle.std.specs.Prelude.{IsTrue, IsFalse}
use Rattle.mixed_radix.specs.Radix.{size}
use Rattle.mixed_radix.proofs.Steps.{some_rest, rest_fits}
use Rattle.grid_quantiser.specs.Axes.{counts_of, cells_of}
use Rattle.grid_quantiser.proofs.Suffixes.{some_cells}
use Rattle.plant_record.specs.Description.{Description, axes_of, value_counts}
use Rattle.plant_record.specs.Plants.{IsPlant}
use Rattle.plant_record.proofs.lemmas.SoundPlants.{sound as sound_plant}
use Rattle.successor_box.specs.PairExtents.{depends_on}
use Rattle.pair_boxes.specs.inside.Digits.{count_in, IsWithDigit, IsAsBefore}
use Rattle.pair_boxes.proofs.EquationDigits.{AreDigitsBetween, none_between, digits_more, slots_more, one_before, one_after, few_along, few_among, few_for_each}
use Rattle.pair_boxes.proofs.PairDigits.{some_count_in}
use Rattle.pair_boxes.proofs.digits.build_digits.Goals as goal

-- there is a cell
some_in : (p : Description) → IsPlant p → 0 < cells_of (axes_of p)
some_in p plant = some_cells (axes_of p) (sound_plant p plant).axes.each

pub loop-variable-init : goal.loop-variable-init
loop-variable-init c =
    let p = c.args.of.now.sampled.plant.now in
    record {
      so_far = subst (λ (n : ℕ). AreDigitsBetween p c.args.of.now.state c.states-variable.result n (record { each = c.new.result; slots = 1 })) c.states-variable.ensures (none_between p c.args.of.now.state c.states-variable.result _ c.new.ensures.items refl);
      few = some_rest (counts_of (axes_of p)) c.states-variable.result (some_in p c.args.of.now.sampled.within.plant);
    }

pub add-requires-clause-fits : goal.add-requires-clause-fits
add-requires-clause-fits c =
    let p = c.args.of.now.sampled.plant.now in
    let v : ℕ = c.loop-variable.variable in
    let cells = c.args.of.now.sampled.within.cells in
    let slots : ℕ = c.loop-variable.digits.slots in
    let few = few_along p slots (slots * count_in p (v - 1)) v (omega (arith, c.loop-variable-test.true)) (omega (arith, c.loop-variable.auto.variable, c.states-variable.ensures)) c.loop-variable.invariant.few (omega arith) in
    omega (arith, few, cells, rest_fits (counts_of (axes_of p)) (v - 1) (some_in p c.args.of.now.sampled.within.plant))

pub loop-variable-preserved : goal.loop-variable-preserved
loop-variable-preserved c =
    let p = c.args.of.now.sampled.plant.now in
    let plant = c.args.of.now.sampled.within.plant in
    let n : ℕ = length p.states in
    let v : ℕ = c.loop-variable.variable in
    let left : 0 < v = omega (arith, c.loop-variable-test.true) in
    let within : v ≤ n = omega (arith, c.loop-variable.auto.variable, c.states-variable.ensures) in
    let known : v - 1 < n + length p.inputs = omega (arith, left, within) in
    let some = some_count_in p plant (sound_plant p plant) (v - 1) known in
    let so_far = c.loop-variable.invariant.so_far in
    record {
      so_far = digits_more p c.args.of.now.state (v - 1) v n (v - 1) n known some c.loop-variable.digits c.add.new.self so_far (λ j. one_before v n j left) c.in_ok-add.ensures.depends c.in_ok-add.ensures.free;
      few = few_along p c.loop-variable.digits.slots c.add.new.self.slots v left within c.loop-variable.invariant.few
          (slots_more p c.args.of.now.state (v - 1) v n (v - 1) n known some c.loop-variable.digits c.add.new.self so_far (λ j. one_before v n j left) c.in_ok-add.ensures.depends c.in_ok-add.ensures.free);
    }

pub loop-input-init : goal.loop-input-init
loop-input-init c =
    let p = c.args.of.now.sampled.plant.now in
    let first : c.loop-variable.variable ≡ 0 = omega (arith, c.loop-variable-test.false) in
    let last : length p.states ≡ length p.states + 0 = omega arith in
    record {
      so_far = subst (λ (n : ℕ). AreDigitsBetween p c.args.of.now.state 0 n c.loop-variable.digits) last (subst (λ (n : ℕ). AreDigitsBetween p c.args.of.now.state n (length p.states) c.loop-variable.digits) first c.loop-variable.invariant.so_far);
      few = mul-le c.loop-variable.digits.slots (size (value_counts p.inputs)) (cells_of (axes_of p)) (size (value_counts p.inputs)) (omega (arith, c.loop-variable.invariant.few, ap (λ (n : ℕ). size (drop n (counts_of (axes_of p)))) first)) (omega arith);
    }

pub add-requires-in-loop-input-clause-fits : goal.add-requires-in-loop-input-clause-fits
add-requires-in-loop-input-clause-fits c =
    let p = c.args.of.now.sampled.plant.now in
    let j : ℕ = c.loop-input.input in
    let slots : ℕ = c.loop-input.digits.slots in
    let within : j < length p.inputs = omega (arith, c.loop-input-test.true, c.input_variables-input-end.ensures) in
    let more : ℕ = slots * count_in p (c.states.result + j) in
    let next : c.states.result ≡ length p.states = c.states.ensures in
    let few = few_among p slots more j within c.loop-input.invariant.few (omega (arith, ap (λ (n : ℕ). slots * count_in p (n + j)) next)) in
    omega (arith, few_for_each p more more c.args.of.now.sampled.within.plant (j + 1) few, c.args.of.now.sampled.within.pairs)

pub loop-input-preserved : goal.loop-input-preserved
loop-input-preserved c =
    let p = c.args.of.now.sampled.plant.now in
    let plant = c.args.of.now.sampled.within.plant in
    let j : ℕ = c.loop-input.input in
    let n : ℕ = length p.states + j in
    let within : j < length p.inputs = omega (arith, c.loop-input-test.true, c.input_variables-input-end.ensures) in
    let known : n < length p.states + length p.inputs = omega (arith, within) in
    let some = some_count_in p plant (sound_plant p plant) n known in
    let next : c.states.result + j ≡ n = omega (arith, c.states.ensures) in
    let after : n + 1 ≡ length p.states + (j + 1) = omega arith in
    let so_far = c.loop-input.invariant.so_far in
    let old = c.loop-input.digits in
    let new = c.add-in-loop-input.new.self in
    let added = subst (λ (k : ℕ). (IsTrue (depends_on p c.args.of.now.state k) → IsWithDigit k (count_in p k) old new) × (IsFalse (depends_on p c.args.of.now.state k) → IsAsBefore old new)) next (c.in_ok-add-2.ensures.depends, c.in_ok-add-2.ensures.free) in
    record {
      so_far = subst (λ (end : ℕ). AreDigitsBetween p c.args.of.now.state 0 end new) after (digits_more p c.args.of.now.state n 0 n 0 (n + 1) known some old new so_far (one_after n) added.0 added.1);
      few = few_among p old.slots new.slots j within c.loop-input.invariant.few (slots_more p c.args.of.now.state n 0 n 0 (n + 1) known some old new so_far (one_after n) added.0 added.1);
    }

pub returns : goal.returns
returns c =
    let p = c.args.of.now.sampled.plant.now in
    let so_far = c.loop-input.invariant.so_far in
    record {
      each = so_far.each;
      all = λ k known stands. so_far.all k (omega arith) (omega (arith, known, c.loop-input-test.false, c.loop-input.auto.input-end, c.input_variables-input-end.ensures)) stands;
      packed = so_far.packed;
      few = few_for_each p c.loop-input.digits.slots c.loop-input.digits.slots c.args.of.now.sampled.within.plant c.loop-input.input c.loop-input.invariant.few;
    }
