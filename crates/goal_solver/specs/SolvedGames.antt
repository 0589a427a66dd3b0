-- What is worked out of a game by workers at a board.
use Rattle.std.specs.Prelude.{◌≡◌, List, Option}
use Rattle.board_rounds.specs.declared.solving.SolvedGame.{SolvedGame}
use Rattle.game_core.specs.declared.game.Row.{Row}
use Rattle.game_core.specs.declared.tally.Tally.{Tally}
use Rattle.game_core.specs.Game.{Game}
use Rattle.game_core.specs.Tally.{IsReachTally, IsKeepTally}
use Rattle.plant_record.specs.declared.aims.GoalKind.{GoalKind}
use Rattle.plant_record.specs.declared.aims.GoalKind.TheVariants.{Reach, Keep}
use Rattle.plant_game.specs.PlantSolution.{Solves}
use Rattle.reach_avoid.specs.ReachBoards.{IsBoardOf as IsReachBoardOf}
use Rattle.safety_game.specs.KeepBoards.{IsBoardOf as IsKeepBoardOf}
use Rattle.cell_counters.specs.declared.account.Account.{Account}
use Rattle.cell_counters.specs.BoardModels.{BoardModel}
use Rattle.reach_avoid.specs.ReachReckoned.{IsReckoned as IsReachReckoned}
use Rattle.safety_game.specs.KeepReckoned.{IsReckoned as IsKeepReckoned}

-- a board began with the numbers of a game, and the accounts have exactly the cuts and the offers that the game's solution
-- asks for, by the goal kind
abbrev pub IsReckonedOn : GoalKind → Game → BoardModel → List Account → Type 0
IsReckonedOn Reach g board accounts = IsReachBoardOf g board × IsReachReckoned g accounts
IsReckonedOn Keep g board accounts = IsKeepBoardOf g board × IsKeepReckoned g accounts

-- the tally of a game's solution, by the goal kind
abbrev pub IsTallyFor : GoalKind → Game → List (Option Row) → Tally → Type 0
IsTallyFor Reach g rows tally = IsReachTally g rows tally
IsTallyFor Keep g rows tally = IsKeepTally g rows tally

-- The solution of a game for a goal with its tally, its board, and the board's root, whose accounts are reckoned and which has no
-- hand out.
pub record IsSolvedGame (goal : GoalKind) (g : Game) (solved : SolvedGame) : Type 0 where
  pub solution : Solves goal g solved.answer
  pub tallied : IsTallyFor goal g solved.answer solved.tally
  pub reckoned : IsReckonedOn goal g solved.board solved.root.accounts
  pub at : solved.root.board ≡ solved.board
  pub settled : solved.root.out ≡ 0
