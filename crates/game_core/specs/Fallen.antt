-- Which cells of a keep game fall, round by round, and rows that no further round changes.
use Rattle.std.specs.Prelude.{◌≡◌, ◌≢◌, ℕ, zero, suc, ◌≤◌, Bool, true, false, ◌||◌, ◌==◌, List, length, Option, Some, None, ◌<◌, ◌⊎◌}
use Rattle.std.specs.List.{All, list_any, list_all, range_with_len}
use Rattle.game_core.specs.declared.game.Mark.{Mark}
use Rattle.game_core.specs.declared.game.Mark.TheVariants.{Obstacle}
use Rattle.game_core.specs.declared.game.Row.{Row}
use Rattle.game_core.specs.Game.{Game, IsGame, mark_of, successors_of, IsEnabled}
use Rattle.game_core.specs.Keep.{HasKeepTree, IsKept}
use Rattle.game_core.specs.Solution.{row_of, HasRow}

-- a mark is that of an obstacle
abbrev pub is_obstacle : Mark → Bool
is_obstacle Obstacle = true
is_obstacle mark = false

-- an input that isn't enabled, or may lead to a cell that passes a test
abbrev pub is_useless : Game → (ℕ → Bool) → ℕ → ℕ → Bool
is_useless g test c u = (length (successors_of g c u) == 0) || list_any test (successors_of g c u)

-- each enabled input of a cell may lead to a cell that passes a test
abbrev pub is_helpless : Game → (ℕ → Bool) → ℕ → Bool
is_helpless g test c = list_all (is_useless g test c) (range_with_len 0 g.inputs)

-- a cell has fallen by round d: in round 0 the obstacles and the cells without an enabled input, later
-- those each of whose enabled inputs may lead to a cell that fell before
abbrev pub has_fallen : Game → ℕ → ℕ → Bool
has_fallen g zero c = is_obstacle (mark_of g c) || is_helpless g (λ s. false) c
has_fallen g (suc d) c = has_fallen g d c || is_helpless g (has_fallen g d) c

-- a cell falls in some round
abbrev pub Falls : Game → ℕ → Type 0
Falls g c = (d : ℕ) × (has_fallen g d c ≡ true)

-- an enabled input after which every cell has a row
abbrev pub LeadsToRows : Game → List (Option Row) → ℕ → ℕ → Type 0
LeadsToRows g rows c u = IsEnabled g c u × All (HasRow rows) (successors_of g c u)

-- a row of a cell that is no obstacle: rank 0, and the least input after which every cell has a row
pub record IsHeldBy (g : Game) (rows : List (Option Row)) (c : ℕ) (row : Row) : Type 0 where
  pub clear : mark_of g c ≢ Obstacle
  pub rank : row.rank ≡ 0
  pub leads : LeadsToRows g rows c row.input
  pub least : (v : ℕ) → LeadsToRows g rows c v → row.input ≤ v

-- a cell without a row falls, another is held by its row
abbrev pub IsStable : Game → List (Option Row) → ℕ → Option Row → Type 0
IsStable g rows c None = Falls g c
IsStable g rows c (Some row) = IsHeldBy g rows c row

-- Rows of a keep game that are settled, one optional row for each cell.
pub record AreStable (g : Game) (rows : List (Option Row)) : Type 0 where
  pub one_each : length rows ≡ g.cells
  pub each : (c : ℕ) → c < g.cells → IsStable g rows c (row_of rows c)

-- each cell has a keep tree of every depth, or none of some depth that is at most the number of cells
abbrev pub KeptOrFallsInTime : Type 0
KeptOrFallsInTime =
    (g : Game) → IsGame g → (c : ℕ) → c < g.cells → IsKept g c ⊎ ((d : ℕ) × (d ≤ g.cells) × (HasKeepTree g d c → ⊥))

-- a cell is kept that has a keep tree whose depth is not below the number of cells
abbrev pub DeepKeepTreesKeep : Type 0
DeepKeepTreesKeep =
    (g : Game) → IsGame g → (c n : ℕ) → c < g.cells → g.cells ≤ n → HasKeepTree g n c → IsKept g c
