-- What every plant keeps that a text describes.
use Rattle.std.specs.Prelude.{◌≡◌, ◌≢◌, ◌≤◌, [], length, AllPairs}
use Rattle.std.specs.List.{All}
use Rattle.plant_record.specs.declared.aims.GoalKind.TheVariants.{Keep}
use Rattle.plant_record.specs.declared.version.PlantVersion.TheVariants.{One}
use Rattle.plant_record.specs.Description.{Description, names_of}
use Rattle.plant_record.specs.Variables.{IsStateVariable, IsInputVariable, IsNoiseVariable}
use Rattle.plant_record.specs.StateBoxes.{IsStateBox}
use Rattle.plant_record.specs.Equations.{IsEquation, HasNoLut}
use Rattle.base.specs.declared.limits.TheConstants.{BOXES_LIMIT, INPUTS_LIMIT, NOISES_LIMIT, STATES_LIMIT}

-- 1 to 6 states with an equation each, up to 3 inputs, 6 noises, 64 targets and 64 obstacles, all names
-- different. A plant that is to be kept off its obstacles has no target, and one of version 1 no table.
pub record IsPlant (p : Description) : Type 0 where
  pub some_state : 1 ≤ length p.states
  pub states_bound : length p.states ≤ STATES_LIMIT
  pub states : All IsStateVariable p.states
  pub inputs_bound : length p.inputs ≤ INPUTS_LIMIT
  pub inputs : All IsInputVariable p.inputs
  pub noises_bound : length p.noises ≤ NOISES_LIMIT
  pub noises : All IsNoiseVariable p.noises
  pub names_differ : AllPairs (λ a b. a ≢ b) (names_of p)
  pub one_each : length p.equations ≡ length p.states
  pub equations : All (IsEquation (length (names_of p))) p.equations
  pub targets_bound : length p.targets ≤ BOXES_LIMIT
  pub targets : All (IsStateBox (length p.states)) p.targets
  pub obstacles_bound : length p.obstacles ≤ BOXES_LIMIT
  pub obstacles : All (IsStateBox (length p.states)) p.obstacles
  pub tables : p.version ≡ One → All HasNoLut p.equations
  pub kept_aims_nowhere : p.goal ≡ Keep → p.targets ≡ []
