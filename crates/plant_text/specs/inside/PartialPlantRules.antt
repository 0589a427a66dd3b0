-- What every part keeps that lines spell. No public clause names this.
use Rattle.std.specs.Prelude.{◌≡◌, ◌≢◌, ◌⊎◌, ◌≤◌, [], length, Some, None, AllPairs, true}
use Rattle.std.specs.List.{All}
use Rattle.plant_record.specs.declared.aims.GoalKind.TheVariants.{Keep}
use Rattle.plant_record.specs.declared.version.PlantVersion.TheVariants.{One}
use Rattle.line_words.specs.Names.{IsName}
use Rattle.plant_record.specs.Variables.{IsStateVariable, IsInputVariable, IsNoiseVariable}
use Rattle.plant_record.specs.StateBoxes.{IsStateBox}
use Rattle.plant_record.specs.Equations.{IsEquation, HasNoLut}
use Rattle.plant_text.specs.Grammar.{PartialPlant, HasEquations, names_in}
use Rattle.base.specs.declared.limits.TheConstants.{BOXES_LIMIT, INPUTS_LIMIT, NOISES_LIMIT, STATES_LIMIT}

-- no box and no goal yet
abbrev pub IsAimless : PartialPlant → Type 0
IsAimless q = (q.targets ≡ []) × (q.obstacles ≡ []) × (q.goal ≡ None)

-- The rules that hold at each line.
pub record KeepsRules (q : PartialPlant) : Type 0 where
  pub unbegun : q.version ≡ None → q.states ≡ []
  pub states_bound : length q.states ≤ STATES_LIMIT
  pub states : All IsStateVariable q.states
  pub inputs_bound : length q.inputs ≤ INPUTS_LIMIT
  pub inputs : All IsInputVariable q.inputs
  pub noises_bound : length q.noises ≤ NOISES_LIMIT
  pub noises : All IsNoiseVariable q.noises
  pub names : All IsName (names_in q)
  pub names_differ : AllPairs (λ a b. a ≢ b) (names_in q)
  pub equations_bound : length q.equations ≤ length q.states
  pub equations : All (IsEquation (length (names_in q))) q.equations
  pub tables : q.version ≡ Some One → All HasNoLut q.equations
  pub targets_bound : length q.targets ≤ BOXES_LIMIT
  pub targets : All (IsStateBox (length q.states)) q.targets
  pub obstacles_bound : length q.obstacles ≤ BOXES_LIMIT
  pub obstacles : All (IsStateBox (length q.states)) q.obstacles
  pub placed : HasEquations q ⊎ IsAimless q
  pub kept_aims_nowhere : q.goal ≡ Some Keep → q.targets ≡ []
  pub closed : q.ended ≡ true → (q.goal ≢ None) × (q.version ≢ None)
