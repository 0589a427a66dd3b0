-- What holds of the game of every plant.
use Rattle.std.specs.Prelude.{◌≡◌, ℕ, List, Option, length, sum_by}
use Rattle.game_core.specs.declared.game.Row.{Row}
use Rattle.game_core.specs.Game.{Game}
use Rattle.plant_record.specs.Description.{Description}
use Rattle.plant_record.specs.Plants.{IsPlant}
use Rattle.plant_game.specs.Abstraction.{IsGameOf, AreEdges}
use Rattle.plant_game.specs.Refinement.{IsRefinement}
use Rattle.plant_game.specs.PlantSolution.{IsSolutionOf}

-- a plant has one game at most
abbrev pub OneGamePerPlant : Type 0
OneGamePerPlant = (p : Description) (g h : Game) → IsPlant p → IsGameOf p g → IsGameOf p h → g ≡ h

-- a plant has one solution at most
abbrev pub OneSolutionPerPlant : Type 0
OneSolutionPerPlant = (p : Description) (rows others : List (Option Row)) → IsPlant p → IsSolutionOf p rows → IsSolutionOf p others → rows ≡ others

-- a plant has one number of edges at most
abbrev pub OneEdgeCount : Type 0
OneEdgeCount = (p : Description) (m n : ℕ) → IsPlant p → AreEdges p m → AreEdges p n → m ≡ n

-- the lists of successors of a plant's game have all its edges
abbrev pub GamesCountTheirEdges : Type 0
GamesCountTheirEdges = (p : Description) (g : Game) → IsGameOf p g → AreEdges p (sum_by length g.successors)

-- a game refines the plant whose game it is
abbrev pub GamesRefineTheirPlants : Type 0
GamesRefineTheirPlants = (p : Description) (g : Game) → IsPlant p → IsGameOf p g → IsRefinement p g
