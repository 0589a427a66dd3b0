use Rattle.std.proofs.Common.{◌≡◌, ◌<◌, ℕ, length, get_or}
use Rattle.std.specs.Prelude.{pos}
use Rattle.plant_record.specs.ValueIndices.{value_at, value_count}
use Rattle.base.specs.declared.limits.TheConstants.{INPUTS_LIMIT}
use Rattle.text_control.proofs.following.vector_at.Given as goal

-- the indices so far are those of the values
abbrev pub invariant-loop-variable : goal.invariant-loop-variable
invariant-loop-variable l =
    (length l.indices ≡ INPUTS_LIMIT)
    × ((k : ℕ) → k < l.variable → (get_or l.indices k 0 < value_count l.plant.inputs k) × (value_at l.plant.inputs k (get_or l.indices k 0) ≡ get_or l.input k (pos 0)))
