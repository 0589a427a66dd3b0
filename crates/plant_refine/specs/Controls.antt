-- What the table does for its plant, by the plant's goal.
use Rattle.std.specs.Prelude.{ℕ, List}
use Rattle.plant_record.specs.declared.aims.GoalKind.{GoalKind}
use Rattle.plant_record.specs.declared.aims.GoalKind.TheVariants.{Reach, Keep}
use Rattle.plant_record.specs.Description.{Description}
use Rattle.plant_refine.specs.Drives.{Drives}
use Rattle.plant_refine.specs.Stays.{Stays}

-- the table brings the plant into a target, or keeps it for ever
abbrev pub ControlsFor : GoalKind → Description → List ℕ → Type 0
ControlsFor Reach p bytes = Drives p bytes
ControlsFor Keep p bytes = Stays p bytes

-- the table does what the plant's goal asks for
abbrev pub Controls : Description → List ℕ → Type 0
Controls p bytes = ControlsFor p.goal p bytes
