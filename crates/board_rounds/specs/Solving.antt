-- What a solved game is, by its rule.
use Rattle.std.specs.Prelude.{◌≡◌, ℕ, suc, ◌<◌, ◌≤◌, List, [], length, Option}
use Rattle.cell_counters.specs.declared.account.Account.{Account}
use Rattle.cell_counters.specs.BoardModels.{BoardModel}
use Rattle.game_core.specs.declared.game.Row.{Row}
use Rattle.game_core.specs.Solution.{row_of}
use Rattle.board_rounds.specs.declared.solving.SolvedGame.{SolvedGame}
use Rattle.board_rounds.specs.Crew.{IsTalliedBy}

-- each cell has the row that the accounts show
pub record AreTold (cells : ℕ) (tells : ℕ → Option Row → Type 0) (rows : List (Option Row)) : Type 0 where
  pub one_each : length rows ≡ cells
  pub each : (c : ℕ) → c < cells → tells c (row_of rows c)

-- a game was solved on the board: no cell is on a list, all hands are taken in, and the accounts show the tally and the rows
pub record IsSolvedByRule (cells : ℕ) (holds_before : ℕ → List ℕ → List Account → Type 0) (tells : List Account → ℕ → Option Row → Type 0) (board : BoardModel) (r : SolvedGame) : Type 0 where
  pub on : r.board ≡ board
  pub at : r.root.board ≡ board
  pub settled : r.root.out ≡ 0
  pub in_time : r.tally.rounds ≤ suc cells
  pub stood : holds_before r.tally.rounds [] r.root.accounts
  pub tallied : IsTalliedBy r.root.accounts r.tally
  pub told : AreTold cells (tells r.root.accounts) r.answer
