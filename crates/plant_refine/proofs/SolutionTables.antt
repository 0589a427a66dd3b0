-- A table of its plant's solution controls the plant, by the plant's goal.
use Rattle.std.proofs.Common.{◌≡◌, ℕ, List, Option, refl}
use Rattle.game_core.specs.declared.game.Row.{Row}
use Rattle.game_core.proofs.Right.{solutions_are_right}
use Rattle.plant_record.specs.declared.aims.GoalKind.{GoalKind}
use Rattle.plant_record.specs.declared.aims.GoalKind.TheVariants.{Reach, Keep}
use Rattle.plant_record.specs.Description.{Description}
use Rattle.controller_table.specs.Tables.{IsTable}
use Rattle.plant_game.specs.PlantSolution.{Solves, IsSolutionOf}
use Rattle.plant_refine.specs.Controls.{ControlsFor}
use Rattle.plant_refine.specs.Laws.{SolutionTablesControlPlants}
use Rattle.plant_refine.proofs.RightTables.{tables_drive}
use Rattle.plant_refine.proofs.KeptTables.{tables_keep}

controls_for : (goal : GoalKind) (bytes : List ℕ) (p : Description) (rows : List (Option Row)) → p.goal ≡ goal → IsTable bytes p rows → (s : IsSolutionOf p rows) → Solves goal s.game rows → ControlsFor goal p bytes
controls_for Reach bytes p rows is table s solution = tables_drive bytes p s.game rows table s.abstraction (solutions_are_right s.game rows s.abstraction.game solution)
controls_for Keep bytes p rows is table s solution = tables_keep bytes p s.game rows is table s.abstraction solution

pub tables_control : SolutionTablesControlPlants
tables_control bytes p rows table s = controls_for p.goal bytes p rows refl table s s.solution
