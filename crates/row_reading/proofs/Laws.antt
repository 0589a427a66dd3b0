-- Bytes give one list of rows for each turn or have one first refused line, never both and never neither.
use Rattle.std.proofs.Common.{◌≡◌, ℕ, suc, ◌^◌, ◌<◌, List, [], ◌∷◌, ◌++◌, length, map, Option, None, refl, sym, ap, ◌∙◌, arith}
use Rattle.std.specs.List.{AllByRecursion}
use Rattle.std.proofs.lemmas.List.{same_from_push}
use Rattle.std.proofs.lemmas.List.Elements.{recursion_from_All}
use Rattle.base.proofs.Lists.{same_head, same_tail}
use Rattle.game_core.specs.declared.game.Row.{Row}
use Rattle.row_runs.specs.declared.run.Run.{Run}
use Rattle.row_runs.specs.Runs.{AreRuns, runs_from}
use Rattle.row_runs.specs.RunText.{run_line, end_line}
use Rattle.row_runs.proofs.RunLaws.{differ}
use Rattle.text_pieces.specs.Steps.{IsStuck}
use Rattle.text_pieces.proofs.Laws as texts
use Rattle.row_reading.specs.declared.row_rules.RowRules.{RowRules}
use Rattle.row_reading.specs.declared.row_rules.TurnRules.{TurnRules}
use Rattle.row_reading.specs.RowsTexts.{head_line, IsRunWithin, AreRowsWithin, row_lines, lines_from, turn_lines, AreTurnsText}
use Rattle.row_reading.specs.TurnSteps.{AfterTurns, AfterAll, TurnStep, AreOver, AreTurnsRefusedAt}
use Rattle.row_reading.specs.inside.RunReading.{IsSpelled, AreSmall, AreSmallTurns}
use Rattle.row_reading.specs.inside.ReadRows.{AreRunsWithin}
use Rattle.row_reading.proofs.RunWords.{run_same, spelled_run}
use Rattle.row_reading.proofs.RowsRead.{runs_within, few_lines as few_rows}
use Rattle.row_reading.proofs.TurnGrammar.{Met, turns_are_grammar}
use Rattle.row_reading.proofs.TurnHeads.{head_same}
use Rattle.row_reading.proofs.TurnsRead.{own, told_read}

-- ---- one list of rows

module _ (rules : RowRules) (small : AreSmall rules) where
  abbrev line_of : Run → List ℕ
  line_of r = run_line rules.version rules.format r

  same_runs : (rs ss : List Run) → AllByRecursion (IsSpelled rules.version rules.format) rs → AllByRecursion (IsSpelled rules.version rules.format) ss → map line_of rs ≡ map line_of ss → rs ≡ ss
  same_runs [] [] h k e = refl
  same_runs [] (s ∷ ss) h k e = absurd cc
  same_runs (r ∷ rs) [] h k e = absurd cc
  same_runs (r ∷ rs) (s ∷ ss) h k e =
      let one : r ≡ s = run_same rules.version rules.format r s h.0 k.0 (same_head (line_of r) (line_of s) (map line_of rs) (map line_of ss) e) in
      ap (λ (x : Run). x ∷ rs) one ∙ ap (λ (x : List Run). s ∷ x) (same_runs rs ss h.1 k.1 (same_tail (line_of r) (line_of s) (map line_of rs) (map line_of ss) e))

  all_spelled : (runs : List Run) → AreRunsWithin rules runs → AllByRecursion (IsSpelled rules.version rules.format) runs
  all_spelled runs are = each runs are.order (recursion_from_All (IsRunWithin rules) runs are.each)
    where
      each : (rs : List Run) → AreRuns rules.version rs → AllByRecursion (IsRunWithin rules) rs → AllByRecursion (IsSpelled rules.version rules.format) rs
      each [] order h = tt
      each (r ∷ rs) order h = (spelled_run rules r small order.0 h.0, each rs order.2 h.1)

  -- the lines of rows give them
  pub lines_tell : (rows others : List (Option Row)) → AreRowsWithin rules rows → AreRowsWithin rules others → row_lines rules.version rules.format rows ≡ row_lines rules.version rules.format others → rows ≡ others
  lines_tell rows others h k e =
      differ rules.version rows others (h.one_each ∙ sym k.one_each)
      (same_runs (runs_from rules.version 0 rows) (runs_from rules.version 0 others) (all_spelled (runs_from rules.version 0 rows) (runs_within rules rows h)) (all_spelled (runs_from rules.version 0 others) (runs_within rules others k)) e)

-- as many lines at the front of the same
split : (xs ys s t : List (List ℕ)) → length xs ≡ length ys → xs ++ s ≡ ys ++ t → (xs ≡ ys) × (s ≡ t)
split [] [] s t n e = (refl, e)
split [] (y ∷ ys) s t n e = absurd (omega (arith, n))
split (x ∷ xs) [] s t n e = absurd (omega (arith, n))
split (x ∷ xs) (y ∷ ys) s t n e =
    let rest = split xs ys s t (omega (arith, n)) (same_tail x y (xs ++ s) (ys ++ t) e) in
    (ap (λ (z : List ℕ). z ∷ xs) (same_head x y (xs ++ s) (ys ++ t) e) ∙ ap (λ (z : List (List ℕ)). y ∷ z) rest.0, rest.1)

module _ (rules : TurnRules) (small : AreSmallTurns rules) where
  few : (r : List (Option Row)) → AreRowsWithin rules.rows r → length (own rules r) < 2 ^ 64
  few r within = let le = few_rows rules.rows r within in let cells = small.rows.cells in omega (arith, le, cells)

  -- the lines of turns give their rows
  turns_tell : (j : ℕ) (turns others : List (List (Option Row))) → AllByRecursion (AreRowsWithin rules.rows) turns → AllByRecursion (AreRowsWithin rules.rows) others → length turns ≡ length others
      → lines_from rules j turns ≡ lines_from rules j others → turns ≡ others
  turns_tell j [] [] h k n e = refl
  turns_tell j [] (s ∷ others) h k n e = absurd (omega (arith, n))
  turns_tell j (r ∷ turns) [] h k n e = absurd (omega (arith, n))
  turns_tell j (r ∷ turns) (s ∷ others) h k n e =
      let first : List (Option Row) → List ℕ = λ q. head_line rules.head j (length (own rules q)) in
      let count = head_same rules.head j (length (own rules r)) (length (own rules s)) (few r h.0) (few s k.0)
      (same_head (first r) (first s) (own rules r ++ lines_from rules (suc j) turns) (own rules s ++ lines_from rules (suc j) others) e) in
      let both = split (own rules r) (own rules s) (lines_from rules (suc j) turns) (lines_from rules (suc j) others) count
      (same_tail (first r) (first s) (own rules r ++ lines_from rules (suc j) turns) (own rules s ++ lines_from rules (suc j) others) e) in
      ap (λ (x : List (Option Row)). x ∷ turns) (lines_tell rules.rows small.rows r s h.0 k.0 both.0)
      ∙ ap (λ (x : List (List (Option Row))). s ∷ x) (turns_tell (suc j) turns others h.1 k.1 (omega (arith, n)) both.1)

  pub one_turns : (bytes : List ℕ) (turns others : List (List (Option Row))) → AreTurnsText rules bytes turns → AreTurnsText rules bytes others → turns ≡ others
  one_turns bytes turns others h k =
      let even = texts.one_end (TurnStep rules) AreOver Met (turns_are_grammar rules small) (AfterTurns 0 0 None) bytes (turn_lines rules turns) (turn_lines rules others) AfterAll AfterAll [] [] tt
      (told_read rules bytes turns h) (told_read rules bytes others k) stops stops in
      turns_tell 0 turns others (recursion_from_All (AreRowsWithin rules.rows) turns h.within.each) (recursion_from_All (AreRowsWithin rules.rows) others k.within.each) (h.within.one_list_each ∙ sym k.within.one_list_each)
      (same_from_push (lines_from rules 0 turns) (lines_from rules 0 others) end_line end_line even.pieces).0
    where
      stops : IsStuck (TurnStep rules) AfterAll []
      stops piece after r cut step = step

  -- ---- one line that is refused, and none where rows are given

  pub one_turns_refused : (bytes : List ℕ) (m n : ℕ) → AreTurnsRefusedAt rules bytes m → AreTurnsRefusedAt rules bytes n → m ≡ n
  one_turns_refused bytes m n r s = texts.one_refusal (TurnStep rules) AreOver Met (turns_are_grammar rules small) (AfterTurns 0 0 None) bytes m n tt r s

  pub turns_or_refused : (bytes : List ℕ) (turns : List (List (Option Row))) (n : ℕ) → AreTurnsText rules bytes turns → AreTurnsRefusedAt rules bytes n → ⊥
  turns_or_refused bytes turns n told r =
      texts.read_or_refused (TurnStep rules) AreOver Met (turns_are_grammar rules small) (AfterTurns 0 0 None) bytes AfterAll [] n tt (record { pieces = turn_lines rules turns; read = told_read rules bytes turns told; closed = refl }) r
