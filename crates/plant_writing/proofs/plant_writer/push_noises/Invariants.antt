use Rattle.std.proofs.Common.{◌≡◌, ◌++◌, take}
use Rattle.std.specs.List.{flat_map}
use Rattle.plant_writing.specs.CanonicalText.{noise_line}
use Rattle.plant_writing.proofs.plant_writer.push_noises.Given as goal

abbrev pub invariant-loop-noise : goal.invariant-loop-noise
invariant-loop-noise l = l.text.items ≡ l.fn.text.items ++ flat_map noise_line (take l.noise-index l.noises)
