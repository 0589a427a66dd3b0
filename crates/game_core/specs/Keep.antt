-- The solution of the keep game: the cells from which the controller can go on for ever, and the input to apply there.
use Rattle.std.specs.Prelude.{◌≡◌, ◌≢◌, ℕ, zero, suc, ◌<◌, ◌≤◌, List, [], ◌∷◌, length, Option, Some, None}
use Rattle.std.specs.List.{All}
use Rattle.game_core.specs.declared.game.Mark.TheVariants.{Obstacle}
use Rattle.game_core.specs.declared.game.Row.{Row}
use Rattle.game_core.specs.Game.{Game, mark_of, successors_of, IsEnabled}
use Rattle.game_core.specs.Solution.{row_of}
use Rattle.game_core.specs.Strategy.{Tree, Leaf, Apply, Trees, NoTrees, AndTree}

-- a keep tree of depth d stands on a cell: no obstacle is there, and above depth 0 its input is enabled
-- and there is one subtree of depth d - 1 for each successor, which stands on it
abbrev mutual
  pub StandsOn : Game → Tree → ℕ → ℕ → Type 0
  StandsOn g Leaf zero c = mark_of g c ≢ Obstacle
  StandsOn g Leaf (suc d) c = ⊥
  StandsOn g (Apply u next) zero c = ⊥
  StandsOn g (Apply u next) (suc d) c = (mark_of g c ≢ Obstacle) × IsEnabled g c u × StandEach g next d (successors_of g c u)

  pub StandEach : Game → Trees → ℕ → List ℕ → Type 0
  StandEach g NoTrees d cells = cells ≡ []
  StandEach g (AndTree t rest) d [] = ⊥
  StandEach g (AndTree t rest) d (c ∷ cells) = StandsOn g t d c × StandEach g rest d cells

-- some keep tree of depth d stands on a cell
abbrev pub HasKeepTree : Game → ℕ → ℕ → Type 0
HasKeepTree g d c = (t : Tree) × StandsOn g t d c

-- a cell is kept: it has a keep tree of every depth
abbrev pub IsKept : Game → ℕ → Type 0
IsKept g c = (d : ℕ) → HasKeepTree g d c

-- an enabled input after which every cell is kept
abbrev pub LeadsToKept : Game → ℕ → ℕ → Type 0
LeadsToKept g c u = IsEnabled g c u × All (IsKept g) (successors_of g c u)

-- what a row says of a kept cell: rank 0, and the least input after which every cell is kept
pub record IsKeptBy (g : Game) (c : ℕ) (row : Row) : Type 0 where
  pub kept : IsKept g c
  pub rank : row.rank ≡ 0
  pub leads : LeadsToKept g c row.input
  pub least : (v : ℕ) → LeadsToKept g c v → row.input ≤ v

-- no row where the cell isn't kept
abbrev pub IsKeepRow : Game → ℕ → Option Row → Type 0
IsKeepRow g c None = IsKept g c → ⊥
IsKeepRow g c (Some row) = IsKeptBy g c row

-- The solution of the keep game, one optional row for each cell.
pub record IsKeepSolution (g : Game) (rows : List (Option Row)) : Type 0 where
  pub one_each : length rows ≡ g.cells
  pub each : (c : ℕ) → c < g.cells → IsKeepRow g c (row_of rows c)
