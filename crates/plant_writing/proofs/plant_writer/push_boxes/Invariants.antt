use Rattle.std.proofs.Common.{◌≡◌, ◌++◌, take}
use Rattle.std.specs.List.{flat_map}
use Rattle.plant_writing.specs.CanonicalText.{box_line}
use Rattle.plant_writing.proofs.plant_writer.push_boxes.Given as goal

abbrev pub invariant-loop-b : goal.invariant-loop-b
invariant-loop-b l = l.text.items ≡ l.fn.text.items ++ flat_map (box_line l.keyword l.states) (take l.b-index l.boxes)
