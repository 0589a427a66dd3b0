-- What is read of the lines of turns, and which line is refused.
use Rattle.std.proofs.Common.{inl, inr, ◌≡◌, ℕ, suc, ◌+◌, ◌<◌, ◌≤◌, List, [], ◌∷◌, ◌++◌, length, length-append, Option, None, refl, sym, ap, ◌∙◌, append_assoc, append-nil, arith}
use Rattle.std.specs.List.{AllByRecursion, concat}
use Rattle.std.proofs.lemmas.List.{length-map}
use Rattle.std.proofs.lemmas.List.Folds.{concat-append}
use Rattle.std.proofs.lemmas.List.Elements.{recursion_from_All, All-nil, All-push}
use Rattle.game_core.specs.declared.game.Row.{Row}
use Rattle.row_runs.specs.declared.run.Run.{Run}
use Rattle.row_runs.specs.Runs.{runs_from}
use Rattle.row_runs.specs.RunText.{run_line, end_line}
use Rattle.text_pieces.specs.Steps.{joined, Leads, IsRead, IsFirstRefused}
use Rattle.text_pieces.proofs.Laws.{both_ways, read_on, few_pieces, few_refused}
use Rattle.row_reading.specs.declared.row_rules.TurnRules.{TurnRules}
use Rattle.row_reading.specs.RowsTexts.{head_line, row_lines, lines_from, turn_lines, AreRowsWithin, AreTurnsText}
use Rattle.row_reading.specs.TurnSteps.{TurnState, AfterTurns, AfterAll, TurnStep, AreOver, AreTurnsRefusedAt}
use Rattle.row_reading.specs.inside.ReadRows.{IsRunRefused, last_after}
use Rattle.row_reading.specs.inside.ReadTurns.{IsHeadAt, IsTurnRead, IsTurnRefused, AreTurnsRead}
use Rattle.row_reading.proofs.Further.{lines_on, is_read, refused_here, refused_on}
use Rattle.row_reading.proofs.RowsRead.{few_lines as few_rows, runs_within, some_lead}
use Rattle.row_reading.proofs.TurnGrammar.{none_empty}

module _ (rules : TurnRules) where
  -- the row lines of one turn
  abbrev pub own : List (Option Row) → List (List ℕ)
  own r = row_lines rules.rows.version rules.rows.format r

  -- all lines of one turn
  abbrev pub lines_of : ℕ → List (Option Row) → List (List ℕ)
  lines_of j r = head_line rules.head j (length (own r)) ∷ own r

  -- ---- the lines of one turn more

  turns_on : (j : ℕ) (turns : List (List (Option Row))) (r : List (Option Row)) → lines_from rules j (turns ++ r ∷ []) ≡ lines_from rules j turns ++ lines_of (j + length turns) r
  turns_on j [] r =
      ap (λ (x : List (List ℕ)). head_line rules.head j (length (own r)) ∷ x) (append-nil (own r)) ∙ ap (λ (k : ℕ). lines_of k r) (omega arith)
  turns_on j (s ∷ turns) r =
      let k : suc j + length turns ≡ j + suc (length turns) = omega arith in
      ap (λ (x : List (List ℕ)). head_line rules.head j (length (own s)) ∷ own s ++ x) (turns_on (suc j) turns r ∙ ap (λ (n : ℕ). lines_from rules (suc j) turns ++ lines_of n r) k)
      ∙ ap (λ (x : List (List ℕ)). head_line rules.head j (length (own s)) ∷ x) (sym (append_assoc (own s) (lines_from rules (suc j) turns) (lines_of (j + suc (length turns)) r)))

  -- the way along the lines of the turns from one on
  turns_lead : (j k : ℕ) (last : Option Run) (turns : List (List (Option Row))) → j + length turns ≡ k → k ≤ rules.turns → AllByRecursion (AreRowsWithin rules.rows) turns
      → (before : Option Run) × Leads (TurnStep rules) (AfterTurns j 0 last) (lines_from rules j turns) (AfterTurns k 0 before)
  turns_lead j k last [] e few are = (last, ap (λ (n : ℕ). AfterTurns n 0 last) (omega (arith, e)))
  turns_lead j k last (r ∷ turns) e few are =
      let count : ℕ = length (own r) in
      let runs : List Run = runs_from rules.rows.version 0 r in
      let between : Option Run = last_after None runs in
      let rows = some_lead rules (suc j) count 0 runs (omega (arith, length-map runs (run_line rules.rows.version rules.rows.format))) (runs_within rules.rows r are.0) in
      let more = turns_lead (suc j) k between turns (omega (arith, e)) few are.1 in (
        more.0,
        (
          AfterTurns (suc j) count None,
          inl (omega (arith, e, few), count, few_rows rules.rows r are.0, refl, refl),
          both_ways (TurnStep rules) (AfterTurns (suc j) count None) (AfterTurns (suc j) 0 between) (AfterTurns k 0 more.0) (own r) (lines_from rules (suc j) turns) rows more.1,
        ),
      )

-- ---- some turns are read

module _ (rules : TurnRules) (bytes : List ℕ) where
  pub nothing_read : AreTurnsRead rules 0 0 bytes bytes []
  nothing_read = record { size = refl; within = All-nil (AreRowsWithin rules.rows); counted = refl; text = refl }

  module _ (j lines : ℕ) (rest : List ℕ) (turns : List (List (Option Row))) (up : AreTurnsRead rules j lines bytes rest turns) where
    abbrev read_lines : List (List ℕ)
    read_lines = lines_from rules 0 turns

    up_to : j ≤ rules.turns → (last : Option Run) × IsRead (TurnStep rules) (AfterTurns 0 0 None) bytes read_lines (AfterTurns j 0 last) rest
    up_to le =
        let way = turns_lead rules 0 j None turns (omega (arith, up.size)) le (recursion_from_All (AreRowsWithin rules.rows) turns up.within) in
        (way.0, is_read (TurnStep rules) (AfterTurns 0 0 None) (AfterTurns j 0 way.0) bytes rest read_lines way.1 up.text)

    pub lines_are_few : j ≤ rules.turns → lines ≤ length bytes
    lines_are_few le =
        let way = up_to le in
        let few = few_pieces (TurnStep rules) (none_empty rules) (AfterTurns 0 0 None) (AfterTurns j 0 way.0) read_lines way.1.leads in
        omega (arith, few, up.counted, ap length way.1.are, length-append (joined read_lines) rest)

    -- a turn more
    pub turn_read : (count : ℕ) (r : List (Option Row)) (after : List ℕ) → IsTurnRead rules j count rest r after → AreTurnsRead rules (j + 1) (lines + (1 + count)) bytes after (turns ++ r ∷ [])
    turn_read count r after turn =
        let at = turn.at in
        let on : lines_from rules 0 (turns ++ r ∷ []) ≡ read_lines ++ lines_of rules j r = turns_on rules 0 turns r ∙ ap (λ (k : ℕ). read_lines ++ lines_of rules k r) (omega (arith, up.size)) in
        let cut : rest ≡ concat (lines_of rules j r) ++ after =
        turn.first.1
        ∙ ap (λ (n : ℕ). head_line rules.head j n ++ turn.rest) (sym at.counted)
        ∙ ap (λ (x : List ℕ). head_line rules.head j (length (own rules r)) ++ x) at.text
        ∙ sym (append_assoc (head_line rules.head j (length (own rules r))) (concat (own rules r)) after) in
        record {
          size = omega (arith, length-append turns (r ∷ []), up.size);
          within = All-push (AreRowsWithin rules.rows) turns r up.within at.within;
          counted = ap length on ∙ omega (arith, length-append read_lines (lines_of rules j r), up.counted, at.counted);
          text = lines_on read_lines (lines_of rules j r) bytes rest after up.text cut ∙ ap (λ (x : List (List ℕ)). concat x ++ after) (sym on);
        }

    pub turn_refused : j < rules.turns → (n : ℕ) → IsTurnRefused rules j rest n → AreTurnsRefusedAt rules bytes (lines + n)
    turn_refused lt n refused =
        let way = up_to (omega (arith, lt)) in
        refused_on (TurnStep rules) AreOver (AfterTurns 0 0 None) (AfterTurns j 0 way.0) bytes rest read_lines lines n way.1 up.counted (refused way.0)

    -- all turns are read
    module _ (all : j ≡ rules.turns) where
      pub no_end : ((rest_after : List ℕ) → rest ≡ end_line ++ rest_after → ⊥) → AreTurnsRefusedAt rules bytes (lines + 1)
      no_end none =
          let way = up_to (omega (arith, all)) in
          refused_on (TurnStep rules) AreOver (AfterTurns 0 0 None) (AfterTurns j 0 way.0) bytes rest read_lines lines 1 way.1 up.counted
          (refused_here (TurnStep rules) AreOver (AfterTurns j 0 way.0) rest (λ piece behind q cut step. elim step [
            | inl turn ↦ (let lt = turn.0 in omega (arith, lt, all))
            | inr end ↦ none behind (cut ∙ ap (λ (x : List ℕ). x ++ behind) end.1)
          ]) (λ over. over))

      pub ended : (rest_after : List ℕ) → rest ≡ end_line ++ rest_after → IsRead (TurnStep rules) (AfterTurns 0 0 None) bytes (turn_lines rules turns) AfterAll rest_after
      ended rest_after cut =
          let way = up_to (omega (arith, all)) in
          read_on (TurnStep rules) (AfterTurns 0 0 None) (AfterTurns j 0 way.0) AfterAll bytes rest end_line rest_after read_lines way.1 cut (inr (all, refl, refl))

      pub more_after : (rest_after : List ℕ) → (rest_after ≡ [] → ⊥) → rest ≡ end_line ++ rest_after → AreTurnsRefusedAt rules bytes (lines + 2)
      more_after rest_after some cut = record {
        pieces = turn_lines rules turns;
        next = omega (arith, up.counted, length-append read_lines (end_line ∷ []));
        to = AfterAll;
        rest = rest_after;
        read = ended rest_after cut;
        stuck = λ piece behind q from step. step;
        unclosed = some;
      }

      pub whole_text : rest ≡ end_line ++ [] → AreTurnsText rules bytes turns
      whole_text cut = record {
        within = record { one_list_each = up.size ∙ all; each = up.within };
        text = lines_on read_lines (end_line ∷ []) bytes rest [] up.text (cut ∙ ap (λ (x : List ℕ). x ++ []) (sym (append-nil end_line))) ∙ append-nil (concat (turn_lines rules turns));
      }

-- the text of all turns is read
pub told_read : (rules : TurnRules) (bytes : List ℕ) (turns : List (List (Option Row))) → AreTurnsText rules bytes turns → IsRead (TurnStep rules) (AfterTurns 0 0 None) bytes (turn_lines rules turns) AfterAll []
told_read rules bytes turns told = ended rules bytes rules.turns (length lines) (end_line ++ []) turns up refl [] refl
  where
    lines : List (List ℕ)
    lines = lines_from rules 0 turns

    up : AreTurnsRead rules rules.turns (length lines) bytes (end_line ++ []) turns
    up = record { size = told.within.one_list_each; within = told.within.each; counted = refl; text = told.text ∙ concat-append lines (end_line ∷ []) }

-- ---- a turn that is refused

-- no line of the turn stands there
pub no_head : (rules : TurnRules) (j : ℕ) (bytes : List ℕ) → j < rules.turns → ((y : ℕ × List ℕ) → IsHeadAt rules.head j rules.rows.cells bytes y → ⊥) → IsTurnRefused rules j bytes 1
no_head rules j bytes lt none last =
    refused_here (TurnStep rules) AreOver (AfterTurns j 0 last) bytes (λ piece behind q cut step. elim step [
      | inl turn ↦ none (turn.1, behind) (turn.2, cut ∙ ap (λ (x : List ℕ). x ++ behind) turn.3)
      | inr end ↦ (let eq = end.0 in omega (arith, lt, eq))
    ]) (λ over. over)

-- a row line of the turn is refused after the turn's own line
pub row_refused : (rules : TurnRules) (j count : ℕ) (bytes rest : List ℕ) → j < rules.turns → IsHeadAt rules.head j rules.rows.cells bytes (count, rest) → (n : ℕ) → IsRunRefused rules.rows count rest n → IsTurnRefused rules j bytes (1 + n)
row_refused rules j count bytes rest lt head n refused last =
    refused_on (TurnStep rules) AreOver (AfterTurns j 0 last) (AfterTurns (suc j) count None) bytes rest (head_line rules.head j count ∷ []) 1 n
    (record {
      leads = (AfterTurns (suc j) count None, inl (lt, count, head.0, refl, refl), refl);
      are = head.1 ∙ ap (λ (x : List ℕ). x ++ rest) (sym (append-nil (head_line rules.head j count)));
    }) refl (refused rules.turns rules.head (suc j))

-- the number of a refused line is small
pub line_bound_from : (rules : TurnRules) (q : TurnState) (bytes : List ℕ) (n : ℕ) → IsFirstRefused (TurnStep rules) AreOver q bytes n → n ≤ length bytes + 1
line_bound_from rules q bytes n r = few_refused (TurnStep rules) AreOver (none_empty rules) q bytes n r

pub line_bound : (rules : TurnRules) (bytes : List ℕ) (n : ℕ) → AreTurnsRefusedAt rules bytes n → n ≤ length bytes + 1
line_bound rules bytes n r = line_bound_from rules (AfterTurns 0 0 None) bytes n r
