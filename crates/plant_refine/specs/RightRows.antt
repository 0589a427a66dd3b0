-- Right rows of a plant.
use Rattle.std.specs.Prelude.{List, Option}
use Rattle.game_core.specs.declared.game.Row.{Row}
use Rattle.game_core.specs.Game.{Game}
use Rattle.game_core.specs.Right.{AreRight}
use Rattle.plant_record.specs.Description.{Description}
use Rattle.plant_game.specs.Abstraction.{IsGameOf}

-- Rows all of whose cells are right in the game of the plant.
pub record AreRightRowsOf (p : Description) (rows : List (Option Row)) : Type 0 where
  pub game : Game
  pub abstraction : IsGameOf p game
  pub right : AreRight game rows
