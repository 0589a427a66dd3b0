-- Examples that show the definitions to say what is meant; no proof cites them.
-- The games are small enough to be solved by hand, and stand with their solutions and tallies.
use Rattle.std.specs.Prelude.{[], ◌∷◌, List, Option, Some, None}
use Rattle.game_core.specs.declared.game.Mark.TheVariants.{Goal, Plain}
use Rattle.game_core.specs.declared.game.Row.{Row}
use Rattle.game_core.specs.declared.tally.Tally.{Tally}
use Rattle.game_core.specs.Game.{Game}

-- five cells side by side, of which the last is a goal, and two inputs that lead to the cell on either side
abbrev pub line : Game
line = record {
  cells = 5;
  inputs = 2;
  marks = Plain ∷ Plain ∷ Plain ∷ Plain ∷ Goal ∷ [];
  successors = [] ∷ (1 ∷ []) ∷ (0 ∷ []) ∷ (2 ∷ []) ∷ (1 ∷ []) ∷ (3 ∷ []) ∷ (2 ∷ []) ∷ (4 ∷ []) ∷ (3 ∷ []) ∷ [] ∷ [];
}

-- the solution of the line as a reach game
abbrev pub line_rows : List (Option Row)
line_rows =
    Some (record { rank = 4; input = 1 }) ∷ Some (record { rank = 3; input = 1 }) ∷ Some (record { rank = 2; input = 1 }) ∷ Some (record { rank = 1; input = 1 }) ∷ Some (record { rank = 0; input = 0 }) ∷ []

-- the tally of the line's reach solution
abbrev pub line_tally : Tally
line_tally = record { cuts = 8; offers = 8; rounds = 5 }

-- five cells side by side, of which the last two are goals, and two inputs that lead on
abbrev pub corridor : Game
corridor = record {
  cells = 5;
  inputs = 2;
  marks = Plain ∷ Plain ∷ Plain ∷ Goal ∷ Goal ∷ [];
  successors = (1 ∷ 2 ∷ []) ∷ (2 ∷ 3 ∷ []) ∷ (2 ∷ 3 ∷ []) ∷ (3 ∷ 4 ∷ []) ∷ (3 ∷ 4 ∷ []) ∷ [] ∷ [] ∷ [] ∷ [] ∷ [] ∷ [];
}

-- the solution of the corridor as a reach game
abbrev pub corridor_rows : List (Option Row)
corridor_rows =
    Some (record { rank = 2; input = 0 }) ∷ Some (record { rank = 1; input = 1 }) ∷ Some (record { rank = 1; input = 0 }) ∷ Some (record { rank = 0; input = 0 }) ∷ Some (record { rank = 0; input = 0 }) ∷ []

-- the tally of the corridor's reach solution
abbrev pub corridor_tally : Tally
corridor_tally = record { cuts = 10; offers = 5; rounds = 3 }

-- the line with the second input alone
abbrev pub one_way : Game
one_way = record {
  cells = 5;
  inputs = 1;
  marks = Plain ∷ Plain ∷ Plain ∷ Plain ∷ Plain ∷ [];
  successors = (1 ∷ []) ∷ (2 ∷ []) ∷ (3 ∷ []) ∷ (4 ∷ []) ∷ [] ∷ [];
}

-- the solution of the one-way line as a keep game: no cell is kept
abbrev pub one_way_rows : List (Option Row)
one_way_rows = None ∷ None ∷ None ∷ None ∷ None ∷ []

-- the tally of the one-way line's keep solution
abbrev pub one_way_tally : Tally
one_way_tally = record { cuts = 8; offers = 0; rounds = 5 }
