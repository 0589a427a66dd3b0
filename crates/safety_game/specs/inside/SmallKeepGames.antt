-- Examples that show the definitions to say what is meant; no proof cites them.
-- The game is small enough to be solved by hand.
use Rattle.std.specs.Prelude.{ℕ, [], ◌∷◌, List, Option, Some, None}
use Rattle.game_core.specs.declared.game.Mark.TheVariants.{Obstacle, Plain}
use Rattle.game_core.specs.declared.game.Row.{Row}
use Rattle.game_core.specs.declared.tally.Tally.{Tally}
use Rattle.game_core.specs.Game.{Game}

-- Six cells with two inputs. Cell 1 is an obstacle, cell 2 has no enabled input, cell 3 loses both inputs in round 0 and
-- cell 4 one in each of two rounds. Cell 0 can go on by itself, and cell 5 by its second input to cell 0.
abbrev pub traps : Game
traps = record {
  cells = 6;
  inputs = 2;
  marks = Plain ∷ Obstacle ∷ Plain ∷ Plain ∷ Plain ∷ Plain ∷ [];
  successors = (0 ∷ []) ∷ (1 ∷ 2 ∷ []) ∷ (2 ∷ []) ∷ [] ∷ [] ∷ [] ∷ (1 ∷ []) ∷ (2 ∷ []) ∷ (1 ∷ 4 ∷ []) ∷ (3 ∷ 4 ∷ []) ∷ (4 ∷ 5 ∷ []) ∷ (0 ∷ []) ∷ [];
}

-- the solution of the traps as a keep game
abbrev pub traps_rows : List (Option Row)
traps_rows = Some (record { rank = 0; input = 0 }) ∷ None ∷ None ∷ None ∷ None ∷ Some (record { rank = 0; input = 1 }) ∷ []

-- the tally of the traps' keep solution
abbrev pub traps_tally : Tally
traps_tally = record { cuts = 16; offers = 0; rounds = 3 }

-- with what its counters begin: those of the pairs of each cell, and then those of the cells
abbrev pub traps_starts : List ℕ
traps_starts = 1 ∷ 2 ∷ 1 ∷ 0 ∷ 0 ∷ 0 ∷ 1 ∷ 1 ∷ 2 ∷ 2 ∷ 2 ∷ 1 ∷ 2 ∷ 1 ∷ 0 ∷ 2 ∷ 2 ∷ 2 ∷ []

-- how often they are cut
abbrev pub traps_cuts : List ℕ
traps_cuts = 0 ∷ 2 ∷ 1 ∷ 0 ∷ 0 ∷ 0 ∷ 1 ∷ 1 ∷ 2 ∷ 2 ∷ 1 ∷ 0 ∷ 1 ∷ 0 ∷ 0 ∷ 2 ∷ 2 ∷ 1 ∷ []
