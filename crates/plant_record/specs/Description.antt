-- What a plant text describes: a sampled plant with its inputs, disturbances, targets and obstacles.
use Rattle.std.specs.Prelude.{ℕ, ◌/◌, ℤ, pos, nat_abs, ◌+ℤ◌, ◌-ℤ◌, List, [], ◌∷◌, ◌++◌, length, map, slice_index_or}
use Rattle.mixed_radix.specs.Radix.{size, digits}
use Rattle.grid_quantiser.specs.declared.axis.Axis.{Axis}
use Rattle.fixed_expr.specs.Expression.{Expression}
use Rattle.plant_record.specs.declared.variables.StateVariable.{StateVariable}
use Rattle.plant_record.specs.declared.variables.InputVariable.{InputVariable}
use Rattle.plant_record.specs.declared.variables.NoiseVariable.{NoiseVariable}
use Rattle.plant_record.specs.declared.aims.StateBox.{StateBox}
use Rattle.plant_record.specs.declared.aims.GoalKind.{GoalKind}
use Rattle.plant_record.specs.declared.version.PlantVersion.{PlantVersion}

-- One equation for each state; its variables are the states, then the inputs, then the noises.
pub record Description : Type 0 where
  pub version : PlantVersion
  pub states : List StateVariable
  pub inputs : List InputVariable
  pub noises : List NoiseVariable
  pub equations : List Expression
  pub targets : List StateBox
  pub obstacles : List StateBox
  pub goal : GoalKind

-- the names of variables, in their order
abbrev pub names_over : List StateVariable → List InputVariable → List NoiseVariable → List (List ℕ)
names_over states inputs noises = map (λ (s : StateVariable). s.name) states ++ map (λ (i : InputVariable). i.name) inputs ++ map (λ (w : NoiseVariable). w.name) noises

-- the names of a plant's variables
abbrev pub names_of : Description → List (List ℕ)
names_of p = names_over p.states p.inputs p.noises

-- how many cells lie along a state
abbrev pub count_of : StateVariable → ℕ
count_of s = nat_abs ((s.high -ℤ s.low) +ℤ pos 1) / nat_abs s.width

-- a state's axis: from its least number on, cells of its width, as many as it has
abbrev pub axis_of : StateVariable → Axis
axis_of s = record { lo = s.low; width = s.width; count = count_of s }

-- the grid's axes
abbrev pub axes_of : Description → List Axis
axes_of p = map axis_of p.states

-- how many values each input variable has
abbrev pub value_counts : List InputVariable → List ℕ
value_counts inputs = map (λ (i : InputVariable). length i.values) inputs

-- how many input vectors there are: the combinations of the input variables' values
abbrev pub vectors_of : List InputVariable → ℕ
vectors_of inputs = size (value_counts inputs)

-- the values at these indices, one of each variable
abbrev pub values_of : List InputVariable → List ℕ → List ℤ
values_of (i ∷ inputs) (k ∷ indices) = slice_index_or i.values k (pos 0) ∷ values_of inputs indices
values_of _ _ = []

-- the input vector of a number, the first variable varying slowest
abbrev pub vector_of : List InputVariable → ℕ → List ℤ
vector_of inputs u = values_of inputs (digits (value_counts inputs) u)
