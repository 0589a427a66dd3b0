-- What stands before each round.
use Rattle.std.specs.Prelude.{ℕ, List}
use Rattle.cell_counters.specs.declared.account.Account.{Account}
use Rattle.cell_counters.specs.BoardModels.{BoardModel}
use Rattle.game_core.specs.Fallen.{has_fallen}
use Rattle.game_core.specs.Game.{Game}
use Rattle.board_rounds.specs.Rules.{LeadsOn}
use Rattle.safety_game.specs.KeepBoards.{IsBoardOf}
use Rattle.safety_game.specs.inside.KeepRounds.{AreFalling, IsFull, KeepsRule}

-- the cells that fell before are taken, those that fall in this round are on the list, and some cell fell in the round before
pub record IsKeepInvariant (g : Game) (d : ℕ) (list : List ℕ) (accounts : List Account) : Type 0 where
  pub falling : AreFalling g d list accounts
  pub full : IsFull g d

-- a board of the game, on which each round leads on to the next
pub record IsRunnable (g : Game) (board : BoardModel) : Type 0 where
  pub of_game : IsBoardOf g board
  pub leads : LeadsOn g board (has_fallen g 0) (λ d. KeepsRule g) (IsKeepInvariant g)
