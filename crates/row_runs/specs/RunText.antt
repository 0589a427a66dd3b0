-- The lines that give runs of rows.
use Rattle.std.specs.Prelude.{ℕ, ◌==◌, List, [], ◌∷◌, map, Option, codes, if◌then◌else◌}
use Rattle.std.specs.Fmt.{decimal}
use Rattle.game_core.specs.declared.game.Row.{Row}
use Rattle.row_runs.specs.declared.row_format.RowFormat.{RowFormat}
use Rattle.row_runs.specs.declared.row_format.RowFormat.TheVariants.{InputAboveZero, InputAlone}
use Rattle.row_runs.specs.declared.run.Run.{Run}
use Rattle.row_runs.specs.declared.run.TableVersion.{TableVersion}
use Rattle.row_runs.specs.declared.run.TableVersion.TheVariants.{First, Second}
use Rattle.row_runs.specs.Runs.{runs_from}
use Rattle.base.specs.Lines.{line}

-- the rank's number, or `-` where there are no ranks
abbrev pub rank_field : RowFormat → Row → List ℕ
rank_field InputAlone row = codes "-"
rank_field format row = decimal row.rank

-- the input's number, or `-` at rank 0 where nothing is applied
abbrev pub input_field : RowFormat → Row → List ℕ
input_field InputAboveZero row = if row.rank == 0 then codes "-" else decimal row.input
input_field format row = decimal row.input

-- the line of a run: its cell in the first version, its first and last cell in the second, then rank and input in a format
abbrev pub run_line : TableVersion → RowFormat → Run → List ℕ
run_line First format r = line (decimal r.first ∷ rank_field format r.row ∷ input_field format r.row ∷ [])
run_line Second format r =
    line (decimal r.first ∷ decimal r.last ∷ rank_field format r.row ∷ input_field format r.row ∷ [])

-- the lines of the longest runs of cells with one row, in this format
abbrev pub run_lines : RowFormat → List (Option Row) → List (List ℕ)
run_lines format rows = map (run_line Second format) (runs_from Second 0 rows)

-- the line that says how many lines of runs follow
abbrev pub count_line : ℕ → List ℕ
count_line n = line (codes "rows" ∷ decimal n ∷ [])

-- the last line of a text that has runs
abbrev pub end_line : List ℕ
end_line = line (codes "end" ∷ [])
