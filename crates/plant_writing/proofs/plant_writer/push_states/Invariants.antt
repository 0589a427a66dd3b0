use Rattle.std.proofs.Common.{◌≡◌, ◌++◌, take}
use Rattle.std.specs.List.{flat_map}
use Rattle.plant_writing.specs.CanonicalText.{state_line}
use Rattle.plant_writing.proofs.plant_writer.push_states.Given as goal

abbrev pub invariant-loop-state : goal.invariant-loop-state
invariant-loop-state l = l.text.items ≡ l.fn.text.items ++ flat_map state_line (take l.state-index l.states)
