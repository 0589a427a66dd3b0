-- The solution of reach and stay: the rank of each cell from which the held cells can be reached, and the input to apply there.
use Rattle.std.specs.Prelude.{◌≡◌, ℕ, ◌-◌, ◌<◌, ◌≤◌, List, length, Option, Some, None}
use Rattle.game_core.specs.declared.game.Row.{Row}
use Rattle.game_core.specs.Game.{Game}
use Rattle.game_core.specs.Strategy.{Tree, LeadsTo, IsRankTo}
use Rattle.game_core.specs.Solution.{row_of, LeadsWithinTo}
use Rattle.temporal_games.specs.Held.{IsHeld}

-- What a row says of a cell: the least depth of a strategy to held cells, and the least input after which each rank is
-- less, or 0 where the row's is 0.
pub record IsStayedBy (g : Game) (c : ℕ) (row : Row) : Type 0 where
  pub rank : IsRankTo (IsHeld g) g c row.rank
  pub leads : LeadsWithinTo (IsHeld g) g c row.input (row.rank - 1)
  pub least : (v : ℕ) → LeadsWithinTo (IsHeld g) g c v (row.rank - 1) → row.input ≤ v

-- no row where no strategy leads to held cells
abbrev pub IsStayRow : Game → ℕ → Option Row → Type 0
IsStayRow g c None = (t : Tree) → LeadsTo (IsHeld g) g t c → ⊥
IsStayRow g c (Some row) = IsStayedBy g c row

-- The solution of reach and stay, one optional row for each cell.
pub record IsStaySolution (g : Game) (rows : List (Option Row)) : Type 0 where
  pub one_each : length rows ≡ g.cells
  pub each : (c : ℕ) → c < g.cells → IsStayRow g c (row_of rows c)
