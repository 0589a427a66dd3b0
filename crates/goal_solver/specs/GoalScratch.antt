-- The memory in which the game of a goal is solved.
use Rattle.game_core.specs.Game.{Game}
use Rattle.plant_record.specs.declared.aims.GoalKind.{GoalKind}
use Rattle.plant_record.specs.declared.aims.GoalKind.TheVariants.{Reach, Keep}
use Rattle.goal_solver.specs.declared.goal_scratch.GoalScratch.{GoalScratch}
use Rattle.goal_solver.specs.declared.goal_scratch.GoalScratch.TheVariants.{Reach as ToReach, Keep as ToKeep}
use Rattle.reach_avoid.specs.ReachBoards.{IsBoardOf as IsReachBoardOf}
use Rattle.safety_game.specs.KeepBoards.{IsBoardOf as IsKeepBoardOf}

-- the goal for which a scratch was made
abbrev pub goal_of : GoalScratch → GoalKind
goal_of (ToReach board) = Reach
goal_of (ToKeep board) = Keep

-- a scratch whose board begins with the numbers of a game
abbrev pub IsScratchFor : Game → GoalScratch → Type 0
IsScratchFor g (ToReach board) = IsReachBoardOf g board
IsScratchFor g (ToKeep board) = IsKeepBoardOf g board
