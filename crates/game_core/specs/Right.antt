-- Rows that can be checked cell by cell, by a look at the rows of the successors alone.
use Rattle.std.specs.Prelude.{◌≡◌, ℕ, zero, suc, ◌<◌, List, length, Option, Some, None}
use Rattle.std.specs.List.{All, Contains}
use Rattle.game_core.specs.declared.game.Mark.{Mark}
use Rattle.game_core.specs.declared.game.Mark.TheVariants.{Goal, Obstacle, Plain}
use Rattle.game_core.specs.declared.game.Row.{Row}
use Rattle.game_core.specs.Game.{Game, mark_of, successors_of, IsEnabled}
use Rattle.game_core.specs.Solution.{row_of, greatest_rank, HasRow, HasRowBelow}

-- an enabled input whose successors all have rows, and k is their greatest rank
pub record LeadsDownTo (g : Game) (rows : List (Option Row)) (c u k : ℕ) : Type 0 where
  pub enabled : IsEnabled g c u
  pub ranked : All (HasRow rows) (successors_of g c u)
  pub greatest : greatest_rank rows (successors_of g c u) ≡ k

-- at a plain cell of rank k + 1 the input leads down to rank k, none leads further down, and no lesser one as far
pub record IsBestInput (g : Game) (rows : List (Option Row)) (c u k : ℕ) : Type 0 where
  pub leads : LeadsDownTo g rows c u k
  pub none_further : (v : ℕ) → IsEnabled g c v → All (HasRowBelow rows k) (successors_of g c v) → ⊥
  pub none_lesser : (v : ℕ) → v < u → LeadsDownTo g rows c v k → ⊥

-- each enabled input has a successor without a row
abbrev pub IsUnwinnable : Game → List (Option Row) → ℕ → Type 0
IsUnwinnable g rows c = (v : ℕ) → IsEnabled g c v → (s : ℕ) × Contains (successors_of g c v) s × (row_of rows s ≡ None)

-- a rank of a plain cell is right: 0 never is
abbrev pub IsRightRanked : Game → List (Option Row) → ℕ → ℕ → ℕ → Type 0
IsRightRanked g rows c zero u = ⊥
IsRightRanked g rows c (suc k) u = IsBestInput g rows c u k

-- the row of a plain cell is right
abbrev pub IsRightPlain : Game → List (Option Row) → ℕ → Option Row → Type 0
IsRightPlain g rows c None = IsUnwinnable g rows c
IsRightPlain g rows c (Some row) = IsRightRanked g rows c row.rank row.input

-- a cell is right, by its mark and its row
abbrev pub IsRightAt : Game → List (Option Row) → ℕ → Mark → Option Row → Type 0
IsRightAt g rows c Obstacle row = row ≡ None
IsRightAt g rows c Goal row = row ≡ Some (record { rank = 0; input = 0 })
IsRightAt g rows c Plain row = IsRightPlain g rows c row

-- a cell is right, with the mark and the row that it has
abbrev pub IsRight : Game → List (Option Row) → ℕ → Type 0
IsRight g rows c = IsRightAt g rows c (mark_of g c) (row_of rows c)

-- Rows all of whose cells are right, one optional row for each cell.
pub record AreRight (g : Game) (rows : List (Option Row)) : Type 0 where
  pub one_each : length rows ≡ g.cells
  pub each : (c : ℕ) → c < g.cells → IsRight g rows c
