-- What the rows of the solution of the keep game promise.
use Rattle.std.proofs.Common.{◌≡◌, ◌≢◌, ℕ, ◌<◌, List, Option, Some, None, Contains, refl, subst}
use Rattle.std.proofs.lemmas.List.Elements.{All-contains}
use Rattle.game_core.specs.declared.game.Row.{Row}
use Rattle.game_core.specs.declared.game.Mark.TheVariants.{Obstacle}
use Rattle.game_core.specs.Game.{Game, IsEnabled, mark_of, successors_of}
use Rattle.game_core.specs.Keep.{StandsOn, IsKept, IsKeptBy, IsKeepRow, IsKeepSolution}
use Rattle.game_core.specs.Solution.{row_of, HasRow}
use Rattle.game_core.specs.Strategy.{Tree, Leaf, Apply}
use Rattle.game_core.proofs.Rows.{below_cells}

-- where a tree of depth 0 stands is no obstacle
no_obstacle : (g : Game) (c : ℕ) (t : Tree) → StandsOn g t 0 c → mark_of g c ≢ Obstacle
no_obstacle g c Leaf h = h
no_obstacle g c (Apply u next) h = absurd h

module _ {g : Game} {rows : List (Option Row)} (solution : IsKeepSolution g rows) where
  -- a kept cell has a row
  row_at : (c : ℕ) → c < g.cells → IsKept g c → HasRow rows c
  row_at c lt kept = at (row_of rows c) refl (solution.each c lt)
    where
      at : (o : Option Row) → row_of rows c ≡ o → IsKeepRow g c o → HasRow rows c
      at None e h = absurd (h kept)
      at (Some row) e h = (row, e)

  module _ (c : ℕ) (row : Row) (is : row_of rows c ≡ Some row) where
    pub cell_below : c < g.cells
    cell_below = below_cells rows g.cells c row solution.one_each is

    kept_by : IsKeptBy g c row
    kept_by = subst (IsKeepRow g c) is (solution.each c cell_below)

    pub clear_of : mark_of g c ≢ Obstacle
    clear_of = let tree = kept_by.kept 0 in no_obstacle g c tree.0 tree.1

    pub enabled : IsEnabled g c row.input
    enabled = kept_by.leads.0

    -- each cell after its input has a row
    pub leads_on : (d : ℕ) → d < g.cells → Contains (successors_of g c row.input) d → HasRow rows d
    leads_on d lt among = row_at d lt (All-contains (IsKept g) (successors_of g c row.input) d kept_by.leads.1 among)
