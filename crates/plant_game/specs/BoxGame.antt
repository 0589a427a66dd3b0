-- Games by boxes: each pair of a cell and an input has a box of cells, or none.
use Rattle.std.specs.Prelude.{ℕ, List, map, Option, length, sum_by, IfSome}
use Rattle.std.specs.List.{All}
use Rattle.grid_quantiser.specs.declared.axis.Axis.{Axis}
use Rattle.grid_quantiser.specs.declared.boxes.CellBox.{CellBox}
use Rattle.grid_quantiser.specs.Axes.{cells_of, AreAxes}
use Rattle.game_core.specs.declared.game.Mark.{Mark}
use Rattle.game_core.specs.Game.{Game, IsGraph}
use Rattle.successor_box.specs.SuccessorBoxes.{cells_in}
use Rattle.grid_quantiser.specs.CellBoxes.{IsCellBox}

-- the corners of a box are in order
abbrev pub IsBox : List Axis → Option CellBox → Type 0
IsBox axes b = IfSome b (λ b. IsCellBox axes b.first b.last)

-- how many edges boxes have
abbrev pub edges_of : List Axis → List (Option CellBox) → ℕ
edges_of axes boxes = sum_by (λ b. length (cells_in axes b)) boxes

-- the game whose successors are the cells of boxes, one box for each pair
abbrev pub box_game : List Axis → ℕ → List Mark → List (Option CellBox) → Game
box_game axes inputs marks boxes = record { cells = cells_of axes; inputs = inputs; marks = marks; successors = map (cells_in axes) boxes }

-- Marks and boxes are a game within the limits on the axes of a grid, and the corners of each box are in order.
pub record IsBoxGraph (axes : List Axis) (inputs : ℕ) (marks : List Mark) (boxes : List (Option CellBox)) : Type 0 where
  pub grid : AreAxes axes
  pub graph : IsGraph (box_game axes inputs marks boxes)
  pub ordered : All (IsBox axes) boxes
