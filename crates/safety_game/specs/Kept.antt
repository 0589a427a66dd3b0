-- What a solver of the keep game gives.
use Rattle.std.specs.Prelude.{◌≡◌}
use Rattle.game_core.specs.Game.{Game}
use Rattle.game_core.specs.Keep.{IsKeepSolution}
use Rattle.game_core.specs.Tally.{IsKeepTally}
use Rattle.board_rounds.specs.declared.solving.SolvedGame.{SolvedGame}
use Rattle.safety_game.specs.KeepBoards.{IsBoardOf}
use Rattle.safety_game.specs.KeepReckoned.{IsReckoned}

-- the solution with its tally, the game's board, and the board's root, whose accounts are reckoned and which has no hand out
pub record IsKeepSolved (g : Game) (kept : SolvedGame) : Type 0 where
  pub solution : IsKeepSolution g kept.answer
  pub tallied : IsKeepTally g kept.answer kept.tally
  pub of_game : IsBoardOf g kept.board
  pub at : kept.root.board ≡ kept.board
  pub settled : kept.root.out ≡ 0
  pub reckoned : IsReckoned g kept.root.accounts
