-- Runs of rows: in the first version one for each cell with a row, in the second one for each stretch of cells with
-- one row, as long as it goes.
use Rattle.std.specs.Prelude.{◌≡◌, ◌≢◌, ◌⊎◌, ℕ, suc, ◌<◌, ◌≤◌, ◌↔◌, Bool, ◌==◌, ◌&&◌, List, [], ◌∷◌, drop, Option, Some, None, if◌then◌else◌}
use Rattle.game_core.specs.declared.game.Row.{Row}
use Rattle.game_core.specs.Solution.{row_of}
use Rattle.row_runs.specs.declared.run.Run.{Run}
use Rattle.row_runs.specs.declared.run.TableVersion.{TableVersion}
use Rattle.row_runs.specs.declared.run.TableVersion.TheVariants.{First, Second}

-- two rows have the same rank and the same input
abbrev pub is_same_row : Row → Row → Bool
is_same_row a b = (a.rank == b.rank) && (a.input == b.input)

-- a cell's row before the runs of the cells after it
abbrev pub prepend_row : TableVersion → ℕ → Row → List Run → List Run
prepend_row First c row runs = record { first = c; last = c; row = row } ∷ runs
prepend_row Second c row [] = record { first = c; last = c; row = row } ∷ []
prepend_row Second c row (r ∷ runs) =
    if (r.first == suc c) && is_same_row row r.row then record { first = c; last = r.last; row = row } ∷ runs
    else record { first = c; last = c; row = row } ∷ r ∷ runs

-- the runs of rows, the first of which is that of cell c
abbrev pub runs_from : TableVersion → ℕ → List (Option Row) → List Run
runs_from version c [] = []
runs_from version c (None ∷ rows) = runs_from version (suc c) rows
runs_from version c (Some row ∷ rows) = prepend_row version c row (runs_from version (suc c) rows)

-- the runs of the second version that are left from a cell on
abbrev pub runs_left : ℕ → List (Option Row) → List Run
runs_left c rows = runs_from Second c (drop c rows)

-- a run may stand right after another: its cells come later, and in the second version neighbours have different rows
abbrev pub MayFollow : TableVersion → Run → Run → Type 0
MayFollow First r s = r.last < s.first
MayFollow Second r s = (r.last < s.first) × (suc r.last ≡ s.first → r.row ≢ s.row)

-- a run has cells, in the first version one
abbrev pub HasCells : TableVersion → Run → Type 0
HasCells First r = r.first ≡ r.last
HasCells Second r = r.first ≤ r.last

-- a run may stand before the first of these
abbrev pub MayLead : TableVersion → Run → List Run → Type 0
MayLead version r [] = Unit {0}
MayLead version r (s ∷ runs) = MayFollow version r s

-- runs, one after another
abbrev pub AreRuns : TableVersion → List Run → Type 0
AreRuns version [] = Unit {0}
AreRuns version (r ∷ runs) = HasCells version r × MayLead version r runs × AreRuns version runs

-- one of the runs gives this row to the cell
abbrev pub Gives : List Run → ℕ → Row → Type 0
Gives [] c row = ⊥
Gives (r ∷ runs) c row = ((r.first ≤ c) × (c ≤ r.last) × (r.row ≡ row)) ⊎ Gives runs c row

-- runs give the rows: each gives its row to its cells, and no other cell has a row
abbrev pub EncodeRows : List Run → List (Option Row) → Type 0
EncodeRows runs rows = (c : ℕ) (row : Row) → (row_of rows c ≡ Some row) ↔ Gives runs c row

-- Rows after a run's row was given to its cells.
pub record IsFilled (run : Run) (rows after : List (Option Row)) : Type 0 where
  pub within : (c : ℕ) → run.first ≤ c → c ≤ run.last → row_of after c ≡ Some run.row
  pub elsewhere : (c : ℕ) → (c < run.first) ⊎ (run.last < c) → row_of after c ≡ row_of rows c
