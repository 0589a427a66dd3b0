use Rattle.plant_refine.proofs.RightTables.{tables_drive}
use Rattle.plant_refine.proofs.laws.right_tables_drive_plants.Goals as goal

pub returns : goal.returns
returns c = tables_drive
