-- The solution of patrol: for each turn the rank of each cell from which the targets can be visited in turn for ever,
-- and the input to apply there.
use Rattle.std.specs.Prelude.{◌≡◌, ℕ, ◌<◌, ◌≤◌, List, length, Option, Some, None}
use Rattle.game_core.specs.declared.game.Row.{Row}
use Rattle.game_core.specs.Game.{Game}
use Rattle.game_core.specs.Strategy.{Trees, Apply, LeadsTo, depth_of}
use Rattle.game_core.specs.Solution.{row_of}
use Rattle.turn_rows.specs.Rows.{rows_for}
use Rattle.temporal_games.specs.Visits.{ReachesLater, VisitsOn, IsArrival}

-- The least depth of a strategy that begins with an input, and the least input with which one of that depth begins.
pub record IsReachedLaterBy (End : ℕ → Type 0) (g : Game) (c : ℕ) (row : Row) : Type 0 where
  pub reached : (next : Trees) × LeadsTo End g (Apply row.input next) c × (depth_of (Apply row.input next) ≡ row.rank)
  pub least : (v : ℕ) (next : Trees) → LeadsTo End g (Apply v next) c → row.rank ≤ depth_of (Apply v next)
  pub first : (v : ℕ) (next : Trees) → LeadsTo End g (Apply v next) c → depth_of (Apply v next) ≡ row.rank → row.input ≤ v

-- no row where no strategy that begins with an input leads to an end
abbrev pub IsLaterReachRow : (ℕ → Type 0) → Game → ℕ → Option Row → Type 0
IsLaterReachRow End g c None = ReachesLater End g c → ⊥
IsLaterReachRow End g c (Some row) = IsReachedLaterBy End g c row

-- no row where the targets can't be visited for ever, else that of the least depth to an arrival
abbrev pub IsPatrolRow : Game → (ℕ → ℕ → Type 0) → ℕ → ℕ → ℕ → Option Row → Type 0
IsPatrolRow g In turns j c None = VisitsOn g In turns j c → ⊥
IsPatrolRow g In turns j c (Some row) = VisitsOn g In turns j c × IsReachedLaterBy (IsArrival g In turns j) g c row

-- The solution of patrol: for each turn one optional row for each cell.
pub record IsPatrol (g : Game) (In : ℕ → ℕ → Type 0) (turns : ℕ) (rows : List (List (Option Row))) : Type 0 where
  pub one_list_each : length rows ≡ turns
  pub one_row_each : (j : ℕ) → j < turns → length (rows_for rows j) ≡ g.cells
  pub each : (j c : ℕ) → j < turns → c < g.cells → IsPatrolRow g In turns j c (row_of (rows_for rows j) c)
