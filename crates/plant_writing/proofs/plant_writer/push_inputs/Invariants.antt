use Rattle.std.proofs.Common.{◌≡◌, ◌++◌, take}
use Rattle.std.specs.List.{flat_map}
use Rattle.plant_writing.specs.CanonicalText.{input_line}
use Rattle.plant_writing.proofs.plant_writer.push_inputs.Given as goal

abbrev pub invariant-loop-input : goal.invariant-loop-input
invariant-loop-input l = l.text.items ≡ l.fn.text.items ++ flat_map input_line (take l.input-index l.inputs)
