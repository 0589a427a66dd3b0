-- What proofs of the crates above cite.
use Rattle.std.proofs.Common.{◌≡◌, ℕ, ◌+◌, ◌<◌, ◌≤◌, List, Option, Some}
use Rattle.game_core.specs.declared.game.Row.{Row}
use Rattle.game_core.specs.Game.{Game, IsGame}
use Rattle.game_core.specs.Solution.{row_of, HasRowBelow}
use Rattle.game_core.specs.Strategy.{Trees, Apply, LeadsTo, depth_of}
use Rattle.temporal_games.specs.Visits.{IsArrival}
use Rattle.turn_rows.specs.Rows.{rows_for}
use Rattle.temporal_games.specs.Patrol.{IsPatrol}
use Rattle.temporal_games.proofs.RowBounds as bounds
pub use Rattle.temporal_games.proofs.TargetCells.{targets_are_told}

-- a row has a rank from 1 to the number of cells, and one of the inputs
pub rows_are_within : (g : Game) (In : ℕ → ℕ → Type 0) (turns : ℕ) (rows : List (List (Option Row))) → IsGame g → IsPatrol g In turns rows → (j c : ℕ) (row : Row) → j < turns → c < g.cells →
    row_of (rows_for rows j) c ≡ Some row → (1 ≤ row.rank) × (row.rank ≤ g.cells) × (row.input < g.inputs)
rows_are_within g In turns rows a h j c row lj lc is = bounds.within g a In turns rows h j lj c row lc is

-- a cell from which a strategy that begins with an input leads to arrivals has a row, of a rank no greater than the strategy's depth
pub later_reachers_have_rows : (g : Game) (In : ℕ → ℕ → Type 0) (turns : ℕ) (rows : List (List (Option Row))) → IsGame g → IsPatrol g In turns rows → (j c u : ℕ) (next : Trees) → j < turns → c < g.cells →
    LeadsTo (IsArrival g In turns j) g (Apply u next) c → HasRowBelow (rows_for rows j) (depth_of (Apply u next) + 1) c
later_reachers_have_rows g In turns rows a h j c u next lj lc leads = bounds.row_for g a In turns rows h j lj u next c lc leads
