use Rattle.std.proofs.Common.{◌≡◌, take}
use Rattle.grid_quantiser.specs.Cells.{point_of}
use Rattle.plant_record.proofs.plant.Plant.state_point.Given as goal

abbrev pub invariant-loop-i : goal.invariant-loop-i
invariant-loop-i l = l.at ≡ point_of (take l.i l.x)
