-- The first cell of a plant's game of which a fact doesn't hold.
use Rattle.std.specs.Prelude.{ℕ, Option}
use Rattle.game_core.specs.Game.{Game, IsGraph}
use Rattle.game_core.specs.Judging.{IsFirstFailure}
use Rattle.plant_record.specs.Description.{Description}
use Rattle.plant_game.specs.Abstraction.{IsGameOf}

-- The game of a plant, and its first cell of which a fact doesn't hold, where there is one.
pub record IsFirstInGame (p : Description) (Fact : Game → ℕ → Type 0) (found : Option ℕ) : Type 0 where
  pub game : Game
  pub abstraction : IsGameOf p game
  pub graph : IsGraph game
  pub first : IsFirstFailure (Fact game) 0 game.cells found
