-- What an abstraction in memory holds.
use Rattle.std.specs.Prelude.{List, Option}
use Rattle.grid_quantiser.specs.declared.boxes.CellBox.{CellBox}
use Rattle.game_core.specs.Game.{Game}
use Rattle.abstraction_table.specs.declared.abstraction.Abstraction.{Abstraction}
use Rattle.abstraction_table.specs.declared.boxed_game.BoxedGame.{BoxedGame}
use Rattle.abstraction_table.specs.declared.forward.ForwardAbstraction.{ForwardAbstraction}
use Rattle.plant_game.specs.BoxGame.{box_game}

-- the game by the boxes of its pairs
abbrev pub game_in : BoxedGame → Game
game_in b = box_game b.grid b.inputs b.marks.items b.boxes

-- the game of a forward abstraction
abbrev pub forward_game : ForwardAbstraction → Game
forward_game o = game_in o.boxed

-- the boxes of all pairs
abbrev pub boxes_forward : ForwardAbstraction → List (Option CellBox)
boxes_forward o = o.boxed.boxes

-- the game
abbrev pub game_of : Abstraction → Game
game_of a = game_in a.boxed

-- the boxes of all pairs
abbrev pub boxes_of : Abstraction → List (Option CellBox)
boxes_of a = a.boxed.boxes
