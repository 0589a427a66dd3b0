-- How the text of a table differs by its version and by the plant's goal.
use Rattle.std.specs.Prelude.{ℕ}
use Rattle.row_runs.specs.declared.row_format.RowFormat.{RowFormat}
use Rattle.row_runs.specs.declared.row_format.RowFormat.TheVariants.{InputAboveZero, InputAlone}
use Rattle.row_runs.specs.declared.run.TableVersion.{TableVersion}
use Rattle.row_runs.specs.declared.run.TableVersion.TheVariants.{First, Second}
use Rattle.plant_record.specs.declared.aims.GoalKind.{GoalKind}
use Rattle.plant_record.specs.declared.aims.GoalKind.TheVariants.{Reach, Keep}

-- the number of a version
abbrev pub version_number : TableVersion → ℕ
version_number First = 1
version_number Second = 2

-- the version in which tables are written
abbrev pub written_version : TableVersion
written_version = Second

-- a plant to be kept off its obstacles has no ranks, and at rank 0 of one to be brought to its targets nothing is applied
abbrev pub format_of : GoalKind → RowFormat
format_of Reach = InputAboveZero
format_of Keep = InputAlone
