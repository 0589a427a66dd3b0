-- Runs that are added one by one. No public clause names this.
use Rattle.std.specs.Prelude.{List, [], ◌∷◌, ◌++◌, Option}
use Rattle.game_core.specs.declared.game.Row.{Row}
use Rattle.row_runs.specs.declared.run.Run.{Run}
use Rattle.row_runs.specs.declared.run.TableVersion.{TableVersion}
use Rattle.row_runs.specs.Runs.{MayFollow, HasCells, AreRuns, EncodeRows, IsFilled}

-- a run may stand right after the last of these
abbrev pub MayEnd : TableVersion → List Run → Run → Type 0
MayEnd version [] r = Unit {0}
MayEnd version (x ∷ []) r = MayFollow version x r
MayEnd version (x ∷ y ∷ runs) r = MayEnd version (y ∷ runs) r

-- with one run more, whose row is given to its cells, the longer list gives the rows
abbrev pub OneRunMore : Type 0
OneRunMore =
    (version : TableVersion) (runs : List Run) (r : Run) (rows after : List (Option Row)) → AreRuns version runs → HasCells version r → MayEnd version runs r → EncodeRows runs rows → IsFilled r rows after →
    AreRuns version (runs ++ r ∷ []) × EncodeRows (runs ++ r ∷ []) after
