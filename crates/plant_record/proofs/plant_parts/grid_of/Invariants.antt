use Rattle.std.proofs.Common.{◌≡◌, length, map, take}
use Rattle.plant_record.specs.Description.{axis_of}
use Rattle.plant_record.proofs.plant_parts.grid_of.Given as goal

abbrev pub invariant-loop-i : goal.invariant-loop-i
invariant-loop-i l = (length l.axes ≡ 6) × (take l.i l.axes ≡ map axis_of (take l.i l.states))
