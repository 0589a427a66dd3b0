-- What holds of every list of rows.
use Rattle.std.specs.Prelude.{◌≡◌, List, length, Option}
use Rattle.game_core.specs.declared.game.Row.{Row}
use Rattle.row_runs.specs.declared.run.Run.{Run}
use Rattle.row_runs.specs.declared.run.TableVersion.{TableVersion}
use Rattle.row_runs.specs.Runs.{runs_from, AreRuns, EncodeRows}

-- the runs of rows are runs, and give the rows
abbrev pub RunsEncodeTheRows : Type 0
RunsEncodeTheRows =
    (version : TableVersion) (rows : List (Option Row)) → AreRuns version (runs_from version 0 rows) × EncodeRows (runs_from version 0 rows) rows

-- two lists of runs that give the same rows are one
abbrev pub OneListOfRuns : Type 0
OneListOfRuns =
    (version : TableVersion) (rows : List (Option Row)) (runs others : List Run) → AreRuns version runs → AreRuns version others → EncodeRows runs rows → EncodeRows others rows → runs ≡ others

-- as many rows with the same runs are the same
abbrev pub RunsDiffer : Type 0
RunsDiffer =
    (version : TableVersion) (rows others : List (Option Row)) → length rows ≡ length others → runs_from version 0 rows ≡ runs_from version 0 others → rows ≡ others
