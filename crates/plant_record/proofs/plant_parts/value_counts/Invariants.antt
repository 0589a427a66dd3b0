use Rattle.std.proofs.Common.{◌≡◌, length, take}
use Rattle.plant_record.specs.Description.{value_counts}
use Rattle.plant_record.proofs.plant_parts.value_counts.Given as goal

abbrev pub invariant-loop-i : goal.invariant-loop-i
invariant-loop-i l = record {
  three : length l.counts ≡ 3;
  each : take l.i l.counts ≡ take l.i (value_counts l.inputs);
}
