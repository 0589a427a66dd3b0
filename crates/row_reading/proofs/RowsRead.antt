-- Rows that lines give, the way along these lines, and how far they are read.
use Rattle.std.proofs.Common.{inl, inr, ◌≡◌, ℕ, zero, suc, ◌+◌, ◌≤◌, List, [], ◌∷◌, ◌++◌, length, map, Option, Some, None, refl, sym, ap, subst, ◌∙◌, arith, ◌-◌, ◌<◌, length-append, replicate, append-nil}
use Rattle.std.specs.Prelude.{IfSome}
use Rattle.std.specs.List.{AllByRecursion, concat}
use Rattle.std.proofs.lemmas.Option.{none-some, same_Some}
use Rattle.std.proofs.lemmas.List.{length-map, map-append}
use Rattle.std.proofs.lemmas.List.Elements.{recursion_from_All, All-from_recursion, All-from_get_or, All-nil, All-push}
use Rattle.game_core.specs.declared.game.Row.{Row}
use Rattle.game_core.specs.Solution.{row_of}
use Rattle.game_core.proofs.Rows.{below_from_row}
use Rattle.row_runs.specs.declared.run.Run.{Run}
use Rattle.row_runs.specs.declared.run.TableVersion.{TableVersion}
use Rattle.row_runs.specs.Runs.{MayLead, AreRuns, Gives, EncodeRows, runs_from, IsFilled}
use Rattle.row_runs.specs.RunText.{run_line}
use Rattle.row_runs.proofs.RunLaws.{runs_encode, one_list, forward, one_more}
use Rattle.row_runs.proofs.FewRuns.{few_runs}
use Rattle.text_pieces.specs.Steps.{Leads}
use Rattle.row_reading.specs.declared.row_rules.RowRules.{RowRules}
use Rattle.row_reading.specs.declared.row_rules.TurnRules.{TurnRules}
use Rattle.row_reading.specs.RowsTexts.{IsRowWithin, IsRunWithin, AreRowsWithin, row_lines}
use Rattle.row_reading.specs.TurnSteps.{AfterTurns, MayStandAfter, TurnStep, AreOver}
use Rattle.row_reading.specs.inside.ReadRows.{AreRowsAt, AreRunsWithin, last_after, AreRead, IsRunRefused}
use Rattle.std.proofs.Math.ListN.{length-replicate}
use Rattle.row_runs.specs.inside.AddedRuns.{MayEnd}
use Rattle.row_reading.specs.inside.RunReading.{IsNextRunAt}
use Rattle.game_core.proofs.Gathering.{no_row}
use Rattle.row_reading.proofs.Further.{lines_on, is_read, refused_here, refused_on}

-- ---- the runs of rows that rules allow

module _ (rules : RowRules) (rows : List (Option Row)) (within : AreRowsWithin rules rows) where
  run_of_row : (r : Run) → row_of rows r.last ≡ Some r.row → IsRunWithin rules r
  run_of_row r is =
      let lt = below_from_row rows r.last r.row is in
      record { cells = omega (arith, lt, within.one_each); row = subst (λ (o : Option Row). IfSome o (IsRowWithin rules)) is (within.each r.last None lt) }

  -- runs that give the rows' own
  each_run : (v : TableVersion) (runs : List Run) → AreRuns v runs → ((c : ℕ) (row : Row) → Gives runs c row → row_of rows c ≡ Some row) → AllByRecursion (IsRunWithin rules) runs
  each_run v [] order told = tt
  each_run v (r ∷ runs) order told =
      (run_of_row r (told r.last r.row (inl (forward v r order.0, omega arith, refl))), each_run v runs order.2 (λ c row given. told c row (inr given)))

  pub runs_within : AreRunsWithin rules (runs_from rules.version 0 rows)
  runs_within =
      let own = runs_encode rules.version rows in
      record { order = own.0; each = All-from_recursion (IsRunWithin rules) (runs_from rules.version 0 rows) (each_run rules.version (runs_from rules.version 0 rows) own.0 (λ c row given. (own.1 c row).1 given)) }

  pub few_lines : length (row_lines rules.version rules.format rows) ≤ rules.cells
  few_lines = omega (arith, length-map (runs_from rules.version 0 rows) (run_line rules.version rules.format), few_runs rules.version 0 rows, within.one_each)

-- ---- their lines lead on

-- the first of some runs may stand after the last one
abbrev pub FollowOn : TableVersion → Option Run → List Run → Type 0
FollowOn v last runs = (s : Run) → last ≡ Some s → MayLead v s runs

first_follows : (v : TableVersion) (last : Option Run) (r : Run) (runs : List Run) → FollowOn v last (r ∷ runs) → MayStandAfter v last r
first_follows v None r runs h = tt
first_follows v (Some s) r runs h = h s refl

abbrev line_of : RowRules → Run → List ℕ
line_of rules r = run_line rules.version rules.format r

module _ (rules : TurnRules) (j : ℕ) where
  runs_lead : (k n : ℕ) (last : Option Run) (runs : List Run) → length runs + n ≡ k → FollowOn rules.rows.version last runs → AreRuns rules.rows.version runs → AllByRecursion (IsRunWithin rules.rows) runs
      → Leads (TurnStep rules) (AfterTurns j k last) (map (line_of rules.rows) runs) (AfterTurns j n (last_after last runs))
  runs_lead k n last [] e on are each = ap (λ (m : ℕ). AfterTurns j m last) (omega (arith, e))
  runs_lead zero n last (r ∷ runs) e on are each = absurd (omega (arith, e))
  runs_lead (suc k) n last (r ∷ runs) e on are each = (
    AfterTurns j k (Some r),
    (r, record { cells = are.0; within = each.0; follows = first_follows rules.rows.version last r runs on; line_is = refl }, refl),
    runs_lead k n (Some r) runs (omega (arith, e)) (λ s is. subst (λ (x : Run). MayLead rules.rows.version x runs) (same_Some r s is) are.1) are.2 each.1,
  )

  pub some_lead : (k n : ℕ) (runs : List Run) → length runs + n ≡ k → AreRunsWithin rules.rows runs → Leads (TurnStep rules) (AfterTurns j k None) (map (line_of rules.rows) runs) (AfterTurns j n (last_after None runs))
  some_lead k n runs e are = runs_lead k n None runs e (λ s is. absurd (none-some s is)) are.order (recursion_from_All (IsRunWithin rules.rows) runs are.each)

-- ---- rows of runs

-- a row that runs give is allowed
given_within : (rules : RowRules) (runs : List Run) (c : ℕ) (row : Row) → AllByRecursion (IsRunWithin rules) runs → Gives runs c row → IsRowWithin rules row
given_within rules [] c row each given = absurd given
given_within rules (r ∷ runs) c row each (inl here) = subst (IsRowWithin rules) here.2 each.0.row
given_within rules (r ∷ runs) c row each (inr rest) = given_within rules runs c row each.1 rest

pub rows_within : (rules : RowRules) (runs : List Run) (rows : List (Option Row)) → length rows ≡ rules.cells → AreRunsWithin rules runs → ((c : ℕ) (row : Row) → row_of rows c ≡ Some row → Gives runs c row) → AreRowsWithin rules rows
rows_within rules runs rows size are given = record {
  one_each = size;
  each = All-from_get_or (λ row. IfSome row (IsRowWithin rules)) rows None (λ c lt. fits c (row_of rows c) refl);
}
  where
    fits : (c : ℕ) (o : Option Row) → row_of rows c ≡ o → IfSome o (IsRowWithin rules)
    fits c None e = tt
    fits c (Some row) e = given_within rules runs c row (recursion_from_All (IsRunWithin rules) runs are.each) (given c row e)

-- runs that give rows are the rows' own
pub own_lines : (rules : RowRules) (runs : List Run) (rows : List (Option Row)) → AreRunsWithin rules runs → EncodeRows runs rows → map (run_line rules.version rules.format) runs ≡ row_lines rules.version rules.format rows
own_lines rules runs rows are tell =
    let own = runs_encode rules.version rows in
    ap (map (run_line rules.version rules.format)) (one_list rules.version rows runs (runs_from rules.version 0 rows) are.order own.0 tell own.1)

pub all_read : (rules : RowRules) (at count : ℕ) (last : Option Run) (bytes rest : List ℕ) (rows : List (Option Row)) → at ≡ count → AreRead rules at last bytes rest rows → AreRowsAt rules count bytes rows rest
all_read rules at count last bytes rest rows e read =
    let lines = own_lines rules read.runs rows read.are read.tell in
    record {
      within = rows_within rules read.runs rows read.one_each read.are (λ c row. (read.tell c row).0);
      counted = ap length (sym lines) ∙ length-map read.runs (run_line rules.version rules.format) ∙ read.counted ∙ e;
      text = read.text ∙ ap (λ (x : List (List ℕ)). concat x ++ rest) lines;
    }

-- ---- the last run

may_end : (v : TableVersion) (runs : List Run) (r : Run) → MayStandAfter v (last_after None runs) r → MayEnd v runs r
may_end v [] r h = tt
may_end v (x ∷ []) r h = h
may_end v (x ∷ y ∷ runs) r h = may_end v (y ∷ runs) r h

last_pushed : (before : Option Run) (runs : List Run) (r : Run) → last_after before (runs ++ r ∷ []) ≡ Some r
last_pushed before [] r = refl
last_pushed before (x ∷ runs) r = last_pushed (Some x) runs r

-- ---- reading on

module _ (rules : RowRules) (bytes : List ℕ) where
  pub nothing_read : (rows : List (Option Row)) → rows ≡ replicate rules.cells None → AreRead rules 0 None bytes bytes rows
  nothing_read rows are = record {
    one_each = ap length are ∙ length-replicate rules.cells None;
    runs = [];
    are = record { order = tt; each = All-nil (IsRunWithin rules) };
    tell = λ c row. ((λ e. absurd (none-some row (sym (ap (λ (r : List (Option Row)). row_of r c) are ∙ no_row rules.cells c) ∙ e))), (λ given. absurd given));
    counted = refl;
    last_is = refl;
    text = refl;
  }

  module _ (at : ℕ) (last : Option Run) (rest : List ℕ) (rows : List (Option Row)) (read : AreRead rules at last bytes rest rows) where
    pub read_on : (r : Run) (rest_after : List ℕ) (after : List (Option Row)) → IsNextRunAt rules last rest (r, rest_after) → IsFilled r rows after → length after ≡ length rows → AreRead rules (at + 1) (Some r) bytes rest_after after
    read_on r rest_after after (line, next, cut) filled size =
        let follows : MayStandAfter rules.version (last_after None read.runs) r = subst (λ (b : Option Run). MayStandAfter rules.version b r) read.last_is next.follows in
        let longer = one_more rules.version read.runs r rows after read.are.order next.cells (may_end rules.version read.runs r follows) read.tell filled in
        let one : rest ≡ concat (line_of rules r ∷ []) ++ rest_after = cut ∙ ap (λ (x : List ℕ). x ++ rest_after) (next.line_is ∙ sym (append-nil (line_of rules r))) in
        record {
          one_each = size ∙ read.one_each;
          runs = read.runs ++ r ∷ [];
          are = record { order = longer.0; each = All-push (IsRunWithin rules) read.runs r read.are.each next.within };
          tell = longer.1;
          counted = omega (arith, length-append read.runs (r ∷ []), read.counted);
          last_is = sym (last_pushed None read.runs r);
          text = lines_on (map (line_of rules) read.runs) (line_of rules r ∷ []) bytes rest rest_after read.text one ∙ ap (λ (x : List (List ℕ)). concat x ++ rest_after) (sym (map-append (line_of rules) read.runs (r ∷ [])));
        }

    pub run_refused : (count : ℕ) → at < count → ((y : Run × List ℕ) → IsNextRunAt rules last rest y → ⊥) → IsRunRefused rules count bytes (at + 1)
    run_refused count lt none turns head j =
        let all : TurnRules = record { rows = rules; turns = turns; head = head } in
        let before : Option Run = last_after None read.runs in
        let due : ℕ = count - (at + 1) in
        let none_next : (y : Run × List ℕ) → IsNextRunAt rules before rest y → ⊥ = subst (λ (b : Option Run). (y : Run × List ℕ) → IsNextRunAt rules b rest y → ⊥) read.last_is none in
        let lines = some_lead all j count (suc due) read.runs (omega (arith, lt, read.counted)) read.are in
        refused_on (TurnStep all) AreOver (AfterTurns j count None) (AfterTurns j (suc due) before) bytes rest (map (line_of rules) read.runs) at 1
        (is_read (TurnStep all) (AfterTurns j count None) (AfterTurns j (suc due) before) bytes rest (map (line_of rules) read.runs) lines read.text) (length-map read.runs (line_of rules) ∙ read.counted)
        (refused_here (TurnStep all) AreOver (AfterTurns j (suc due) before) rest (λ piece behind q cut step. none_next (step.0, behind) (piece, step.1, cut)) (λ over. over))
