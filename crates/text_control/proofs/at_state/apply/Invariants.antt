use Rattle.std.proofs.Common.{◌≡◌, ◌<◌, ℕ, get_or}
use Rattle.std.specs.Prelude.{pos}
use Rattle.plant_record.specs.Description.{vector_of}
use Rattle.text_control.proofs.at_state.apply.Given as goal

abbrev pub invariant-loop-j : goal.invariant-loop-j
invariant-loop-j l = (k : ℕ) → k < l.j → get_or l.input k (pos 0) ≡ get_or (vector_of l.plant.inputs l.vector) k (pos 0)
