-- Rows have no more runs than cells.
use Rattle.std.proofs.Common.{ℕ, suc, ◌≤◌, Bool, true, false, ◌&&◌, List, [], ◌∷◌, length, Option, Some, None, arith}
use Rattle.std.specs.Prelude.{◌==◌, if◌then◌else◌}
use Rattle.game_core.specs.declared.game.Row.{Row}
use Rattle.row_runs.specs.declared.run.Run.{Run}
use Rattle.row_runs.specs.declared.run.TableVersion.{TableVersion}
use Rattle.row_runs.specs.declared.run.TableVersion.TheVariants.{First, Second}
use Rattle.row_runs.specs.Runs.{runs_from, prepend_row, is_same_row}

one_put : (v : TableVersion) (c : ℕ) (row : Row) (runs : List Run) → length (prepend_row v c row runs) ≤ suc (length runs)
one_put First c row runs = omega arith
one_put Second c row [] = omega arith
one_put Second c row (r ∷ runs) = either ((r.first == suc c) && is_same_row row r.row)
  where
    either : (b : Bool) → length (if b then record { first = c; last = r.last; row = row } ∷ runs else record { first = c; last = c; row = row } ∷ r ∷ runs) ≤ suc (suc (length runs))
    either true = omega arith
    either false = omega arith

pub few_runs : (v : TableVersion) (c : ℕ) (rows : List (Option Row)) → length (runs_from v c rows) ≤ length rows
few_runs v c [] = omega arith
few_runs v c (None ∷ rows) = omega (arith, few_runs v (suc c) rows)
few_runs v c (Some row ∷ rows) = omega (arith, few_runs v (suc c) rows, one_put v c row (runs_from v (suc c) rows))
