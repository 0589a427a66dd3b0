use Rattle.plant_refine.proofs.KeptTables.{tables_keep}
use Rattle.plant_refine.proofs.laws.kept_tables_keep_plants.Goals as goal

pub returns : goal.returns
returns c = tables_keep
