-- What a draft in memory holds. No public clause names this.
use Rattle.std.specs.Prelude.{◌≡◌, ◌≢◌, ◌<◌, ◌≤◌, [], length, map, None}
use Rattle.fixed_expr.specs.Expression.{expression_of}
use Rattle.plant_text.specs.declared.draft.Draft.{Draft}
use Rattle.plant_text.specs.Grammar.{PartialPlant}
use Rattle.base.specs.declared.limits.TheConstants.{INPUTS_LIMIT, NOISES_LIMIT, STATES_LIMIT}

-- what is read so far, as a draft holds it
abbrev pub partial_of : Draft → PartialPlant
partial_of d = record {
  version = d.version;
  states = d.variables.states.items;
  inputs = d.variables.inputs.items;
  noises = d.variables.noises.items;
  equations = map expression_of d.equations.items;
  targets = d.targets.items;
  obstacles = d.obstacles.items;
  goal = d.goal;
  ended = d.ended;
}

-- a draft that a state may follow: it has a version, no input, noise or equation, and not all the states that are allowed
abbrev pub TakesState : Draft → Type 0
TakesState d =
    (d.version ≢ None) × (d.variables.inputs.items ≡ []) × (d.variables.noises.items ≡ []) × (d.equations.items ≡ []) × (length d.variables.states.items < STATES_LIMIT)

-- a draft that an input variable may follow: it has a state, no noise or equation, and not all the inputs that are allowed
abbrev pub TakesInput : Draft → Type 0
TakesInput d =
    (1 ≤ length d.variables.states.items) × (d.variables.noises.items ≡ []) × (d.equations.items ≡ []) × (length d.variables.inputs.items < INPUTS_LIMIT)

-- a draft that a noise may follow: it has a state, no equation, and not all the noises that are allowed
abbrev pub TakesNoise : Draft → Type 0
TakesNoise d = (1 ≤ length d.variables.states.items) × (d.equations.items ≡ []) × (length d.variables.noises.items < NOISES_LIMIT)
