-- What holds of every plant, its game and its table.
use Rattle.std.specs.Prelude.{◌≡◌, ℕ, List, Option}
use Rattle.game_core.specs.declared.game.Row.{Row}
use Rattle.game_core.specs.Game.{Game}
use Rattle.game_core.specs.Keep.{IsKeepSolution}
use Rattle.game_core.specs.Right.{AreRight}
use Rattle.plant_record.specs.declared.aims.GoalKind.TheVariants.{Keep}
use Rattle.plant_record.specs.Description.{Description}
use Rattle.controller_table.specs.Tables.{IsTable}
use Rattle.plant_game.specs.Abstraction.{IsGameOf}
use Rattle.plant_game.specs.PlantSolution.{IsSolutionOf}
use Rattle.plant_refine.specs.Controls.{Controls}
use Rattle.plant_refine.specs.Drives.{Drives}
use Rattle.plant_refine.specs.Stays.{Stays}

-- a table all of whose cells are right drives its plant
abbrev pub RightTablesDrivePlants : Type 0
RightTablesDrivePlants = (bytes : List ℕ) (p : Description) (g : Game) (rows : List (Option Row)) → IsTable bytes p rows → IsGameOf p g → AreRight g rows → Drives p bytes

-- a table of the keep solution of a plant's game keeps the plant
abbrev pub KeptTablesKeepPlants : Type 0
KeptTablesKeepPlants = (bytes : List ℕ) (p : Description) (g : Game) (rows : List (Option Row)) → p.goal ≡ Keep → IsTable bytes p rows → IsGameOf p g → IsKeepSolution g rows → Stays p bytes

-- a table of a plant's solution controls the plant, by its goal
abbrev pub SolutionTablesControlPlants : Type 0
SolutionTablesControlPlants = (bytes : List ℕ) (p : Description) (rows : List (Option Row)) → IsTable bytes p rows → IsSolutionOf p rows → Controls p bytes
