-- Another mark for each cell leaves a graph a graph.
use Rattle.std.specs.Prelude.{◌≡◌, List, length}
use Rattle.game_core.specs.declared.game.Mark.{Mark}
use Rattle.game_core.specs.Game.{Game, IsGraph, with_marks}

pub remarked_lawful : (g : Game) (marks : List Mark) → length marks ≡ g.cells → IsGraph g → IsGraph (with_marks g marks)
remarked_lawful g marks n h = record {
  game = record { one_mark_each = n; one_list_each = h.game.one_list_each; rising = h.game.rising; within = h.game.within };
  some_cell = h.some_cell;
  cells_bound = h.cells_bound;
  some_input = h.some_input;
  inputs_bound = h.inputs_bound;
  pairs_bound = h.pairs_bound;
  edges_bound = h.edges_bound;
}
