-- What the parts of a plant are, where they lie in memory.
use Rattle.std.specs.Prelude.{ℕ, List, map}
use Rattle.fixed_expr.specs.Expression.{expression_of}
use Rattle.plant_record.specs.declared.variables.Variables.{Variables}
use Rattle.plant_record.specs.declared.plant_parts.PlantParts.{PlantParts}
use Rattle.plant_record.specs.Description.{Description, names_over}

-- the names of the variables, in their order
abbrev pub variable_names : Variables → List (List ℕ)
variable_names v = names_over v.states.items v.inputs.items v.noises.items

-- the description that the parts hold, the equations where they lie in memory
abbrev pub description_of : PlantParts → Description
description_of q = record {
  version = q.version;
  states = q.variables.states.items;
  inputs = q.variables.inputs.items;
  noises = q.variables.noises.items;
  equations = map expression_of q.equations.items;
  targets = q.targets.items;
  obstacles = q.obstacles.items;
  goal = q.goal;
}
