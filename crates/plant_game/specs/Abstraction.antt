-- The abstraction of a plant: the game of its cells, input vectors, marks and successors.
use Rattle.std.specs.Prelude.{◌≡◌, ℕ, ◌<◌, ◌↔◌, List, [], length, slice_index_or, sum_by}
use Rattle.grid_quantiser.specs.Axes.{cells_of}
use Rattle.game_core.specs.declared.game.Mark.{Mark}
use Rattle.game_core.specs.declared.game.Mark.TheVariants.{Goal, Obstacle}
use Rattle.game_core.specs.Game.{Game, IsGame, mark_of, successors_of}
use Rattle.plant_record.specs.Description.{Description, axes_of, vectors_of}
use Rattle.plant_record.specs.CellMarks.{IsGoalCell, IsObstacleCell}
use Rattle.successor_box.specs.SuccessorBoxes.{AreSuccessors}
use Rattle.pair_box.specs.PlantBoxes.{pairs_of_plant, pair_of_plant}

-- the mark that a cell of a plant has in its game
abbrev pub IsMarkAt : Description → ℕ → Mark → Type 0
IsMarkAt p c mark = ((mark ≡ Goal) ↔ IsGoalCell p c) × ((mark ≡ Obstacle) ↔ IsObstacleCell p c)

-- A game is the game of a plant.
pub record IsGameOf (p : Description) (g : Game) : Type 0 where
  pub game : IsGame g
  pub cells : g.cells ≡ cells_of (axes_of p)
  pub inputs : g.inputs ≡ vectors_of p.inputs
  pub marks : (c : ℕ) → c < g.cells → IsMarkAt p c (mark_of g c)
  pub successors : (c u : ℕ) → c < g.cells → u < g.inputs → AreSuccessors p c u (successors_of g c u)

-- The number of a plant's edges: how many successors all pairs have, those of obstacles and of goals included.
pub record AreEdges (p : Description) (edges : ℕ) : Type 0 where
  pub lists : List (List ℕ)
  pub one_each : length lists ≡ pairs_of_plant p
  pub each : (c u : ℕ) → c < cells_of (axes_of p) → u < vectors_of p.inputs → AreSuccessors p c u (slice_index_or lists (pair_of_plant p c u) [])
  pub total : edges ≡ sum_by length lists
