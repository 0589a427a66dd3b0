use Rattle.plant_refine.proofs.SolutionTables.{tables_control}
use Rattle.plant_refine.proofs.laws.solution_tables_control_plants.Goals as goal

pub returns : goal.returns
returns c = tables_control
