-- Inputs that lead to cells of low ranks alone.
use Rattle.std.specs.Prelude.{◌≢◌, ℕ, ◌<◌, ◌≤◌, List, [], Option}
use Rattle.std.specs.List.{All}
use Rattle.game_core.specs.declared.game.Row.{Row}
use Rattle.game_core.specs.Game.{Game, pair_of, successors_at}
use Rattle.game_core.specs.Solution.{HasRowBelow}

-- a pair has successors, all of them with rows of ranks below k
abbrev pub LeadsBelow : Game → List (Option Row) → ℕ → ℕ → Type 0
LeadsBelow g rows pair k = (successors_at g pair ≢ []) × All (HasRowBelow rows k) (successors_at g pair)

-- none of the inputs from one on, up to before another, leads from a cell to ranks below k alone
abbrev pub NoneLeadsBelow : Game → List (Option Row) → ℕ → ℕ → ℕ → ℕ → Type 0
NoneLeadsBelow g rows c from to k = (v : ℕ) → from ≤ v → v < to → LeadsBelow g rows (pair_of g c v) k → ⊥
