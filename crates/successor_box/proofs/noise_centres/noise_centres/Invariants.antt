use Rattle.std.proofs.Common.{◌≡◌, map, take}
use Rattle.grid_quantiser.specs.Cells.{point_of}
use Rattle.successor_box.specs.SuccessorBoxes.{noise_centre}
use Rattle.successor_box.proofs.noise_centres.noise_centres.Given as goal

-- the centres so far
abbrev pub invariant-loop-k : goal.invariant-loop-k
invariant-loop-k l = l.centres ≡ point_of (take l.k (map noise_centre l.p.noises))
