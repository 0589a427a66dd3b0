-- How long lines of rows are at most, where cells and ranks have seven digits and inputs four.
use Rattle.std.proofs.Common.{ℕ, ◌*◌, ◌^◌, ◌<◌, ◌≤◌, Bool, true, false, cond, eqb, List, [], ◌∷◌, length, length-append, map, Option, arith}
use Rattle.std.specs.Prelude.{codes}
use Rattle.std.specs.List.{AllByRecursion, concat}
use Rattle.std.specs.Fmt.{decimal}
use Rattle.std.proofs.lemmas.Fmt.{length-decimal-le}
use Rattle.std.proofs.lemmas.List.Elements.{recursion_from_All}
use Rattle.base.specs.Lines.{line}
use Rattle.game_core.specs.declared.game.Row.{Row}
use Rattle.row_runs.specs.declared.row_format.RowFormat.{RowFormat}
use Rattle.row_runs.specs.declared.row_format.RowFormat.TheVariants.{InputAboveZero, InputAlone, Both}
use Rattle.row_runs.specs.declared.run.Run.{Run}
use Rattle.row_runs.specs.declared.run.TableVersion.{TableVersion}
use Rattle.row_runs.specs.declared.run.TableVersion.TheVariants.{First, Second}
use Rattle.row_runs.specs.Runs.{HasCells, AreRuns, runs_from}
use Rattle.row_runs.specs.RunText.{run_line, rank_field, input_field}
use Rattle.row_reading.specs.declared.row_rules.RowRules.{RowRules}
use Rattle.row_reading.specs.RowsTexts.{IsRunWithin, AreRowsWithin, row_lines}
use Rattle.controller_table.proofs.PlantLength.{line_more}
use Rattle.row_runs.proofs.FewRuns.{few_runs}
use Rattle.row_reading.proofs.RowsRead.{runs_within}

pub seven : (n : ℕ) → n ≤ 2 ^ 20 → length (decimal n) ≤ 7
seven n le = length-decimal-le 7 n (omega arith) (omega (arith, le)) (omega (arith, le))

four : (n : ℕ) → n < 4096 → length (decimal n) ≤ 4
four n lt = length-decimal-le 4 n (omega arith) (omega (arith, lt)) (omega (arith, lt))

rank_length : (format : RowFormat) (row : Row) → row.rank ≤ 2 ^ 20 → length (rank_field format row) ≤ 7
rank_length InputAboveZero row le = seven row.rank le
rank_length InputAlone row le = omega arith
rank_length Both row le = seven row.rank le

input_length : (format : RowFormat) (row : Row) → row.input < 4096 → length (input_field format row) ≤ 4
input_length InputAboveZero row lt = chosen (eqb row.rank 0) (four row.input lt)
  where
    chosen : (b : Bool) → length (decimal row.input) ≤ 4 → length (cond b (codes "-") (decimal row.input)) ≤ 4
    chosen true h = omega arith
    chosen false h = h
input_length InputAlone row lt = four row.input lt
input_length Both row lt = four row.input lt

words_length : (a b i : List ℕ) → length a ≤ 7 → length b ≤ 7 → length i ≤ 4 → length (line (a ∷ b ∷ i ∷ [])) ≤ 21
words_length a b i ha hb hi = omega (arith, ha, hb, hi, line_more a b (i ∷ []), line_more b i [], length-append i (codes "\n"))

-- Numbers of so many digits.
pub record AreShort (rules : RowRules) : Type 0 where
  pub cells : rules.cells ≤ 2 ^ 20
  pub vectors : rules.vectors ≤ 4096
  pub most_rank : rules.most_rank ≤ 2 ^ 20

module _ (rules : RowRules) (short : AreShort rules) where
  -- a run's line has at most four numbers of 7, 7, 7 and 4 digits, and a byte after each
  run_length : (v : TableVersion) (r : Run) → HasCells v r → IsRunWithin rules r → length (run_line v rules.format r) ≤ 29
  run_length First r some h =
      let one = words_length (decimal r.first) (rank_field rules.format r.row) (input_field rules.format r.row)
      (seven r.first (omega (arith, some, h.cells, short.cells))) (rank_length rules.format r.row (omega (arith, h.row.most, short.most_rank))) (input_length rules.format r.row (omega (arith, h.row.input, short.vectors))) in
      omega (arith, one)
  run_length Second r some h =
      let last = seven r.last (omega (arith, h.cells, short.cells)) in
      let rest = words_length (decimal r.last) (rank_field rules.format r.row) (input_field rules.format r.row) last
      (rank_length rules.format r.row (omega (arith, h.row.most, short.most_rank))) (input_length rules.format r.row (omega (arith, h.row.input, short.vectors))) in
      omega (arith, rest, seven r.first (omega (arith, some, h.cells, short.cells)), line_more (decimal r.first) (decimal r.last) (rank_field rules.format r.row ∷ input_field rules.format r.row ∷ []))

  runs_length : (v : TableVersion) (runs : List Run) → AreRuns v runs → AllByRecursion (IsRunWithin rules) runs → length (concat (map (run_line v rules.format) runs)) ≤ length runs * 29
  runs_length v [] order h = omega arith
  runs_length v (r ∷ runs) order h =
      let one = run_length v r order.0 h.0 in
      let more = runs_length v runs order.2 h.1 in
      omega (arith, one, more, length-append (run_line v rules.format r) (concat (map (run_line v rules.format) runs)))

  pub rows_length : (rows : List (Option Row)) → AreRowsWithin rules rows → length (concat (row_lines rules.version rules.format rows)) ≤ rules.cells * 29
  rows_length rows within =
      let are = runs_within rules rows within in
      let long = runs_length rules.version (runs_from rules.version 0 rows) are.order (recursion_from_All (IsRunWithin rules) (runs_from rules.version 0 rows) are.each) in
      omega (arith, long, few_runs rules.version 0 rows, within.one_each)
