-- A plant has one solution at most, since it has one game, and a game has one solution.
use Rattle.std.proofs.Common.{◌≡◌, List, Option, subst}
use Rattle.game_core.specs.declared.game.Row.{Row}
use Rattle.game_core.specs.Game.{Game}
use Rattle.game_core.proofs.Keep.{one_keep_solution}
use Rattle.game_core.proofs.Promises.{one_solution}
use Rattle.plant_record.specs.declared.aims.GoalKind.{GoalKind}
use Rattle.plant_record.specs.declared.aims.GoalKind.TheVariants.{Reach, Keep}
use Rattle.plant_game.specs.Laws.{OneSolutionPerPlant}
use Rattle.plant_game.specs.PlantSolution.{Solves}
use Rattle.plant_game.proofs.OneGame.{one_game}

-- rows that solve a game are determined
one_for_goal : (goal : GoalKind) (g : Game) (first second : List (Option Row)) → Solves goal g first → Solves goal g second → first ≡ second
one_for_goal Reach = one_solution
one_for_goal Keep = one_keep_solution

pub one_plant_solution : OneSolutionPerPlant
one_plant_solution p rows others plant h k =
    let same : k.game ≡ h.game = one_game p k.game h.game plant k.abstraction h.abstraction in
    one_for_goal p.goal h.game rows others h.solution (subst (λ (g : Game). Solves p.goal g others) same k.solution)
