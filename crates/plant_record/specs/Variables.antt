-- What the variables of a plant keep.
use Rattle.std.specs.Prelude.{◌≡◌, ◌%◌, ◌≤◌, pos, nat_abs, ◌+ℤ◌, ◌-ℤ◌, ◌≤ℤ◌, length}
use Rattle.std.specs.List.{All}
use Rattle.plant_record.specs.declared.variables.StateVariable.{StateVariable}
use Rattle.plant_record.specs.declared.variables.InputVariable.{InputVariable}
use Rattle.plant_record.specs.declared.variables.NoiseVariable.{NoiseVariable}
use Rattle.line_words.specs.Names.{IsName}
use Rattle.line_words.specs.Numbers.{IsLiteral}
use Rattle.base.specs.declared.limits.TheConstants.{VALUES_LIMIT}

-- A state's range is divided into whole cells.
pub record IsStateVariable (s : StateVariable) : Type 0 where
  pub name : IsName s.name
  pub low : IsLiteral s.low
  pub high : IsLiteral s.high
  pub width : IsLiteral s.width
  pub ordered : s.low ≤ℤ s.high
  pub some_width : pos 1 ≤ℤ s.width
  pub whole_cells : nat_abs ((s.high -ℤ s.low) +ℤ pos 1) % nat_abs s.width ≡ 0

-- An input variable lists 1 to 64 values.
pub record IsInputVariable (i : InputVariable) : Type 0 where
  pub name : IsName i.name
  pub some_value : 1 ≤ length i.values
  pub values_bound : length i.values ≤ VALUES_LIMIT
  pub each : All IsLiteral i.values

-- A noise's range isn't empty.
pub record IsNoiseVariable (w : NoiseVariable) : Type 0 where
  pub name : IsName w.name
  pub low : IsLiteral w.low
  pub high : IsLiteral w.high
  pub ordered : w.low ≤ℤ w.high
