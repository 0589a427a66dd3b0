use Rattle.std.proofs.Common.{◌<◌, ◌≢◌, ℕ}
use Rattle.plant_record.specs.ValueIndices.{value_at}
use Rattle.text_control.proofs.following.index_of.Given as goal

-- no value so far is the one
abbrev pub invariant-loop-index : goal.invariant-loop-index
invariant-loop-index l = (k : ℕ) → k < l.index → value_at l.plant.inputs l.variable k ≢ l.value
