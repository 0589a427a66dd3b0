-- What a solver of the reach game gives.
use Rattle.std.specs.Prelude.{◌≡◌}
use Rattle.game_core.specs.Game.{Game}
use Rattle.game_core.specs.Solution.{IsReachSolution}
use Rattle.game_core.specs.Tally.{IsReachTally}
use Rattle.board_rounds.specs.declared.solving.SolvedGame.{SolvedGame}
use Rattle.reach_avoid.specs.ReachBoards.{IsBoardOf}
use Rattle.reach_avoid.specs.ReachReckoned.{IsReckoned}

-- the solution with its tally, the game's board, and the board's root, whose accounts are reckoned and which has no hand out
pub record IsSolved (g : Game) (solved : SolvedGame) : Type 0 where
  pub solution : IsReachSolution g solved.answer
  pub tallied : IsReachTally g solved.answer solved.tally
  pub of_game : IsBoardOf g solved.board
  pub at : solved.root.board ≡ solved.board
  pub settled : solved.root.out ≡ 0
  pub reckoned : IsReckoned g solved.root.accounts
