use Rattle.std.proofs.Common.{◌*◌, ◌+◌, ◌≤◌, drop, length}
use Rattle.mixed_radix.specs.Radix.{size}
use Rattle.grid_quantiser.specs.Axes.{counts_of}
use Rattle.plant_record.specs.Description.{axes_of, value_counts}
use Rattle.pair_box.specs.PlantBoxes.{pairs_of_plant}
use Rattle.pair_boxes.proofs.EquationDigits.{AreDigitsBetween}
use Rattle.pair_boxes.proofs.digits.build_digits.Given as goal

-- the digits of the last states
abbrev pub invariant-loop-variable : goal.invariant-loop-variable
invariant-loop-variable l = record {
  so_far : AreDigitsBetween l.of.sampled.plant.now l.of.state l.variable (length l.of.sampled.plant.now.states) l.digits;
  few : l.digits.slots ≤ size (drop l.variable (counts_of (axes_of l.of.sampled.plant.now)));
}

-- the digits of the states and of the first input variables
abbrev pub invariant-loop-input : goal.invariant-loop-input
invariant-loop-input l = record {
  so_far : AreDigitsBetween l.of.sampled.plant.now l.of.state 0 (length l.of.sampled.plant.now.states + l.input) l.digits;
  few : l.digits.slots * size (drop l.input (value_counts l.of.sampled.plant.now.inputs)) ≤ pairs_of_plant l.of.sampled.plant.now;
}
