-- With what the board of a game begins.
use Rattle.std.specs.Prelude.{◌≡◌, ℕ, List, map, length}
use Rattle.std.specs.List.{range_with_len}
use Rattle.cell_counters.specs.BoardModels.{BoardModel}
use Rattle.game_core.specs.Game.{Game}

-- how many successors each pair has
abbrev pub fans_of : Game → List ℕ
fans_of g = map length g.successors

-- a number for each cell
abbrev pub for_each_cell : Game → (ℕ → ℕ) → List ℕ
for_each_cell g number = map number (range_with_len 0 g.cells)

-- counters and minima begin with these numbers, and there is a slot in the log for each cell
pub record IsBegunWith (starts least : List ℕ) (g : Game) (board : BoardModel) : Type 0 where
  pub counters : board.starts ≡ starts
  pub words : board.least ≡ least
  pub log : board.slots ≡ g.cells
