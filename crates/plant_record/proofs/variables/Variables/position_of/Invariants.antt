use Rattle.std.proofs.Common.{◌≢◌, ℕ, ◌<◌, Some}
use Rattle.std.specs.Prelude.{slice_get}
use Rattle.plant_record.specs.Parts.{variable_names}
use Rattle.plant_record.proofs.variables.Variables.position_of.Given as goal

abbrev pub invariant-loop-i : goal.invariant-loop-i
invariant-loop-i l = (k : ℕ) → k < l.i → slice_get (variable_names l.self) k ≢ Some l.name
