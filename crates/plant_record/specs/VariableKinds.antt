-- Which variable of its kind stands at a position.
use Rattle.std.specs.Prelude.{◌≡◌, ℕ, ◌+◌, ◌<◌, length}
use Rattle.plant_record.specs.declared.variables.Variable.{Variable}
use Rattle.plant_record.specs.declared.variables.Variable.TheVariants.{State, Input, Noise}
use Rattle.plant_record.specs.Description.{Description}

-- the variable at a position: the states come first, then the inputs, then the noises
abbrev pub IsVariableAt : Description → ℕ → Variable → Type 0
IsVariableAt p k (State i) = (k ≡ i) × (i < length p.states)
IsVariableAt p k (Input i) = (k ≡ length p.states + i) × (i < length p.inputs)
IsVariableAt p k (Noise i) = (k ≡ length p.states + length p.inputs + i) × (i < length p.noises)
