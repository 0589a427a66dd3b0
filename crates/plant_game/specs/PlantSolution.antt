-- The solution of a plant: that of its game, by the plant's goal.
use Rattle.std.specs.Prelude.{List, Option}
use Rattle.game_core.specs.declared.game.Row.{Row}
use Rattle.game_core.specs.Game.{Game}
use Rattle.game_core.specs.Keep.{IsKeepSolution}
use Rattle.game_core.specs.Solution.{IsReachSolution}
use Rattle.plant_record.specs.declared.aims.GoalKind.{GoalKind}
use Rattle.plant_record.specs.declared.aims.GoalKind.TheVariants.{Reach, Keep}
use Rattle.plant_record.specs.Description.{Description}
use Rattle.plant_game.specs.Abstraction.{IsGameOf}

-- rows solve a game for a goal
abbrev pub Solves : GoalKind → Game → List (Option Row) → Type 0
Solves Reach g rows = IsReachSolution g rows
Solves Keep g rows = IsKeepSolution g rows

-- The solution of a plant's game for the plant's goal, one optional row for each cell.
pub record IsSolutionOf (p : Description) (rows : List (Option Row)) : Type 0 where
  pub game : Game
  pub abstraction : IsGameOf p game
  pub solution : Solves p.goal game rows
