-- What stands before each round.
use Rattle.std.specs.Prelude.{ℕ, List}
use Rattle.cell_counters.specs.declared.account.Account.{Account}
use Rattle.cell_counters.specs.BoardModels.{BoardModel}
use Rattle.game_core.specs.Game.{Game, mark_of}
use Rattle.board_rounds.specs.Rules.{LeadsOn}
use Rattle.reach_avoid.specs.ReachBoards.{IsBoardOf}
use Rattle.reach_avoid.specs.inside.ReachRounds.{decoded_rows, IsReached, IsFull, KeepsRule, is_goal}

-- the cells of all lesser ranks are taken, those of this rank are on the list, and some cell has the rank before
pub record IsReachInvariant (g : Game) (rank : ℕ) (list : List ℕ) (accounts : List Account) : Type 0 where
  pub reached : IsReached g rank list accounts
  pub full : IsFull (decoded_rows g accounts) rank

-- a board of the game, on which each round leads on to the next
pub record IsRunnable (g : Game) (board : BoardModel) : Type 0 where
  pub of_game : IsBoardOf g board
  pub leads : LeadsOn g board (λ c. is_goal (mark_of g c)) (KeepsRule g) (IsReachInvariant g)
