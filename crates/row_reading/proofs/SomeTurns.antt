-- No bytes give no rows of turns and have no line that is refused.
use Rattle.std.proofs.Common.{inl, inr, ◌≡◌, ℕ, suc, ◌<◌, ◌≤◌, List, [], ◌∷◌, length, map, Option, Some, None, sym, ap, subst, ◌∙◌, arith, zero, ◌+◌, ◌++◌, refl, append_assoc, append-nil}
use Rattle.std.specs.Prelude.{◌↔◌}
use Rattle.std.specs.List.{AllByRecursion, range_with_len}
use Rattle.std.proofs.lemmas.Bool.{cases_lt}
use Rattle.std.proofs.lemmas.Option.{none-some, same_Some}
use Rattle.std.proofs.lemmas.List.{get_or_past, nil_from_length, length-map}
use Rattle.std.proofs.lemmas.List.FromFn.{get_or-map-range_with_len, length-map-range_with_len}
use Rattle.std.proofs.lemmas.List.Elements.{All-from_recursion}
use Rattle.game_core.specs.declared.game.Row.{Row}
use Rattle.row_runs.specs.declared.run.Run.{Run}
use Rattle.row_runs.specs.declared.run.TableVersion.{TableVersion}
use Rattle.row_runs.specs.Runs.{AreRuns, Gives, EncodeRows}
use Rattle.row_runs.specs.RunText.{run_line, end_line}
use Rattle.row_runs.proofs.Encoding.{begin_later, gives_above}
use Rattle.row_reading.specs.declared.row_rules.RowRules.{RowRules}
use Rattle.row_reading.specs.RowsTexts.{IsRunWithin, AreRowsWithin, row_lines, head_line, lines_from, turn_lines, AreTurnsText}
use Rattle.row_reading.specs.inside.ReadRows.{AreRunsWithin}
use Rattle.row_reading.proofs.RowsRead.{FollowOn, own_lines, rows_within}
use Rattle.text_pieces.specs.Steps.{joined, Leads, IsRead}
use Rattle.text_pieces.proofs.Laws.{joined_bytes, undeniable}
use Rattle.row_reading.specs.declared.row_rules.TurnRules.{TurnRules}
use Rattle.row_reading.specs.TurnSteps.{TurnState, AfterTurns, AfterAll, MayStandAfter, TurnStep, AreOver, AreTurnsRefusedAt}
use Rattle.row_reading.specs.inside.RunReading.{AreSmallTurns}
use Rattle.row_reading.proofs.TurnGrammar.{Met, turns_are_grammar}
use Rattle.row_reading.proofs.TurnsRead.{own}

-- ---- the rows of runs

given_below : (rules : RowRules) (runs : List Run) (c : ℕ) (row : Row) → AllByRecursion (IsRunWithin rules) runs → Gives runs c row → c < rules.cells
given_below rules [] c row each given = absurd given
given_below rules (r ∷ runs) c row each (inl here) = omega (arith, here.1, each.0.cells)
given_below rules (r ∷ runs) c row each (inr rest) = given_below rules runs c row each.1 rest

-- The row that runs give a cell, or none.
record IsGiven (runs : List Run) (c : ℕ) : Type 0 where
  row : Option Row
  told : (x : Row) → (row ≡ Some x) ↔ Gives runs c x

-- a run whose cells lie elsewhere gives nothing
passed : (r : Run) (runs : List Run) (c : ℕ) → (r.first ≤ c → c ≤ r.last → ⊥) → IsGiven runs c → IsGiven (r ∷ runs) c
passed r runs c apart rest = record {
  row = rest.row;
  told = λ x. (
    (λ e. inr ((rest.told x).0 e)),
    (λ g. elim g [
      | inl here ↦ absurd (apart here.0 here.1)
      | inr more ↦ (rest.told x).1 more
    ]),
  );
}

given_row : (v : TableVersion) (runs : List Run) (c : ℕ) → AreRuns v runs → IsGiven runs c
given_row v [] c order = record { row = None; told = λ x. ((λ e. absurd (none-some x e)), (λ g. absurd g)) }
given_row v (r ∷ runs) c order =
    let rest = given_row v runs c order.2 in
    elim (cases_lt c r.first) [
      | inl before ↦ passed r runs c (λ from to. omega (arith, before, from)) rest
      | inr from ↦ elim (cases_lt r.last c) [
        | inl past ↦ passed r runs c (λ at to. omega (arith, past, to)) rest
        | inr to ↦ record {
          row = Some r.row;
          told = λ x. (
            (λ e. inl (from, to, same_Some r.row x e)),
            (λ g. elim g [
              | inl here ↦ ap (λ (y : Row). Some y) here.2
              | inr more ↦ absurd (let above = gives_above v (suc r.last) runs c x order.2 (begin_later v r runs order.1) more in omega (arith, to, above))
            ]),
          );
        }
      ]
    ]

-- Rows whose lines are those of runs.
pub record AreRowsOf (rules : RowRules) (runs : List Run) : Type 0 where
  pub rows : List (Option Row)
  pub within : AreRowsWithin rules rows
  pub lines_are : map (run_line rules.version rules.format) runs ≡ row_lines rules.version rules.format rows

pub rows_of : (rules : RowRules) (runs : List Run) → AreRuns rules.version runs → AllByRecursion (IsRunWithin rules) runs → AreRowsOf rules runs
rows_of rules runs order each = record { rows = rows; within = rows_within rules runs rows size are (λ c row. (tell c row).0); lines_are = own_lines rules runs rows are tell }
  where
    row_at : ℕ → Option Row
    row_at c = (given_row rules.version runs c order).row

    rows : List (Option Row)
    rows = map row_at (range_with_len 0 rules.cells)

    size : length rows ≡ rules.cells
    size = length-map-range_with_len row_at 0 rules.cells

    are : AreRunsWithin rules runs
    are = record { order = order; each = All-from_recursion (IsRunWithin rules) runs each }

    tell : EncodeRows runs rows
    tell c row = elim (cases_lt c rules.cells) [
      | inl lt ↦ subst (λ (o : Option Row). (o ≡ Some row) ↔ Gives runs c row) (sym (get_or-map-range_with_len row_at 0 rules.cells c c None lt (omega arith))) ((given_row rules.version runs c order).told row)
      | inr past ↦ (
        (λ e. absurd (none-some row (sym (get_or_past rows c None (omega (arith, past, size))) ∙ e))),
        (λ g. absurd (let below = given_below rules runs c row each g in omega (arith, past, below))),
      )
    ]

-- ---- the rows of lines

module _ (rules : TurnRules) where
  abbrev line_of : Run → List ℕ
  line_of r = run_line rules.rows.version rules.rows.format r

  abbrev lines_after : ℕ → List (List (Option Row)) → List (List ℕ)
  lines_after j turns = lines_from rules j turns ++ end_line ∷ []

  -- The row lines of this turn that are due, the lines of the turns from one on, and the end.
  record AreTold (j due : ℕ) (last : Option Run) (lines : List (List ℕ)) : Type 0 where
    runs : List Run
    order : AreRuns rules.rows.version runs
    follow : FollowOn rules.rows.version last runs
    each : AllByRecursion (IsRunWithin rules.rows) runs
    counted : length runs ≡ due
    turns : List (List (Option Row))
    size : j + length turns ≡ rules.turns
    within : AllByRecursion (AreRowsWithin rules.rows) turns
    are : lines ≡ map line_of runs ++ lines_after j turns

  -- no row lines are due before turns
  turns_then : (j : ℕ) (last : Option Run) (lines : List (List ℕ)) (turns : List (List (Option Row))) → j + length turns ≡ rules.turns → AllByRecursion (AreRowsWithin rules.rows) turns → lines ≡ lines_after j turns → AreTold j 0 last lines
  turns_then j last lines turns size within are = record { runs = []; order = tt; follow = λ s e. tt; each = tt; counted = refl; turns = turns; size = size; within = within; are = are }

  turn_then : (j n : ℕ) (last : Option Run) (lines : List (List ℕ)) → AreTold (suc j) n None lines → AreTold j 0 last (head_line rules.head j n ∷ lines)
  turn_then j n last lines told =
      let this = rows_of rules.rows told.runs told.order told.each in
      let rows : List (List ℕ) = own rules this.rows in
      let count : n ≡ length rows = sym told.counted ∙ sym (length-map told.runs line_of) ∙ ap length this.lines_are in
      turns_then j last (head_line rules.head j n ∷ lines) (this.rows ∷ told.turns) (omega (arith, told.size)) (this.within, told.within)
      (ap (λ (k : ℕ). head_line rules.head j k ∷ lines) count
      ∙ ap (λ (ys : List (List ℕ)). head_line rules.head j (length rows) ∷ ys)
      (told.are ∙ ap (λ (ys : List (List ℕ)). ys ++ lines_after (suc j) told.turns) this.lines_are ∙ sym (append_assoc rows (lines_from rules (suc j) told.turns) (end_line ∷ []))))

  told : (j due : ℕ) (last : Option Run) (lines : List (List ℕ)) → Leads (TurnStep rules) (AfterTurns j due last) lines AfterAll → AreTold j due last lines
  told j due last [] leads = absurd (let h = leads in cc)
  told j zero last (x ∷ lines) leads = elim leads.1 [
    | inl turn ↦
        subst (λ (y : List ℕ). AreTold j 0 last (y ∷ lines)) (sym turn.3)
        (turn_then j turn.1 last lines (told (suc j) turn.1 None lines (subst (λ (q : TurnState). Leads (TurnStep rules) q lines AfterAll) turn.4 leads.2)))
    | inr end ↦
        turns_then j last (x ∷ lines) [] (omega (arith, end.0)) tt
        (ap (λ (y : List ℕ). y ∷ lines) end.1 ∙ ap (λ (ys : List (List ℕ)). end_line ∷ ys) (none_after lines (subst (λ (q : TurnState). Leads (TurnStep rules) q lines AfterAll) end.2 leads.2)))
  ]
    where
      none_after : (ys : List (List ℕ)) → Leads (TurnStep rules) AfterAll ys AfterAll → ys ≡ []
      none_after [] on = refl
      none_after (y ∷ ys) on = absurd on.1
  told j (suc n) last (x ∷ lines) leads =
      let r : Run = leads.1.0 in
      let next = leads.1.1 in
      let more = told j n (Some r) lines (subst (λ (q : TurnState). Leads (TurnStep rules) q lines AfterAll) leads.1.2 leads.2) in
      record {
        runs = r ∷ more.runs;
        order = (next.cells, more.follow r refl, more.order);
        follow = λ s e. subst (λ (o : Option Run). MayStandAfter rules.rows.version o r) e next.follows;
        each = (next.within, more.each);
        counted = ap suc more.counted;
        turns = more.turns;
        size = more.size;
        within = more.within;
        are = ap (λ (y : List ℕ). y ∷ lines) next.line_is ∙ ap (λ (ys : List (List ℕ)). line_of r ∷ ys) more.are;
      }

  -- the text that is read gives rows
  text_told : (bytes : List ℕ) (to : TurnState) (rest : List ℕ) (lines : List (List ℕ)) → AreOver to rest → IsRead (TurnStep rules) (AfterTurns 0 0 None) bytes lines to rest → (turns : List (List (Option Row))) × AreTurnsText rules bytes turns
  text_told bytes (AfterTurns j n last) rest lines over read = absurd over
  text_told bytes AfterAll rest lines over read =
      let all = told 0 0 None lines read.leads in
      let lines_are : lines ≡ turn_lines rules all.turns = all.are ∙ ap (λ (runs : List Run). map line_of runs ++ turn_lines rules all.turns) (nil_from_length all.runs all.counted) in (
        all.turns,
        record {
          within = record { one_list_each = omega (arith, all.size); each = All-from_recursion (AreRowsWithin rules.rows) all.turns all.within };
          text = read.are ∙ ap (λ (x : List ℕ). joined lines ++ x) over ∙ append-nil (joined lines) ∙ ap joined lines_are ∙ sym (joined_bytes (turn_lines rules all.turns));
        },
      )

  pub no_turns_are_neither : AreSmallTurns rules → (bytes : List ℕ) → ((turns : List (List (Option Row))) → AreTurnsText rules bytes turns → ⊥) → ((n : ℕ) → AreTurnsRefusedAt rules bytes n → ⊥) → ⊥
  no_turns_are_neither small bytes untold unrefused =
      undeniable (TurnStep rules) AreOver Met (turns_are_grammar rules small) (AfterTurns 0 0 None) bytes tt
      (λ to rest reading. (let given = text_told bytes to rest reading.pieces reading.closed reading.read in untold given.0 given.1)) unrefused
