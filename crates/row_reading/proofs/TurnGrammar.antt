-- The lines of turns are a grammar: each is one line, and says one thing.
use Rattle.std.proofs.Common.{inl, inr, ◌≡◌, ℕ, zero, suc, ◌^◌, ◌<◌, ◌≤◌, List, [], ◌∷◌, length, length-append, Some, None, sym, ap, subst, ◌∙◌, arith}
use Rattle.std.specs.Prelude.{codes}
use Rattle.std.specs.List.{join_with_byte}
use Rattle.std.specs.Fmt.{decimal}
use Rattle.base.specs.Lines.{line}
use Rattle.row_runs.specs.declared.row_format.RowFormat.{RowFormat}
use Rattle.row_runs.specs.declared.run.Run.{Run}
use Rattle.row_runs.specs.declared.run.TableVersion.{TableVersion}
use Rattle.row_runs.specs.declared.run.TableVersion.TheVariants.{First, Second}
use Rattle.row_runs.specs.RunText.{rank_field, input_field, run_line}
use Rattle.row_runs.proofs.Lines.{IsLine, one_line}
use Rattle.row_runs.proofs.RunWords.{end_is_line}
use Rattle.text_pieces.specs.Steps.{IsStuck, IsGrammar}
use Rattle.row_reading.specs.declared.row_rules.TurnHead.{TurnHead}
use Rattle.row_reading.specs.declared.row_rules.TurnHead.TheVariants.{Count, Numbered}
use Rattle.row_reading.specs.declared.row_rules.TurnRules.{TurnRules}
use Rattle.row_reading.specs.RowsTexts.{head_line}
use Rattle.row_reading.specs.TurnSteps.{TurnState, AfterTurns, AfterAll, TurnStep, AreOver}
use Rattle.row_reading.specs.inside.RunReading.{AreSmallTurns}
use Rattle.row_reading.proofs.RunWords.{row_is_line, row_same}
use Rattle.row_reading.proofs.TurnHeads.{head_is_line, head_same}

-- where turns are given, the state plays no part
abbrev pub Met : TurnState → Type 0
Met q = Unit {0}

-- ---- no line is empty

no_line : (words : List (List ℕ)) → [] ≡ line words → ⊥
no_line words e = omega (arith, ap length e, length-append (join_with_byte 32 words) (codes "\n"))

no_run : (v : TableVersion) (format : RowFormat) (r : Run) → [] ≡ run_line v format r → ⊥
no_run First format r e = no_line (decimal r.first ∷ rank_field format r.row ∷ input_field format r.row ∷ []) e
no_run Second format r e = no_line (decimal r.first ∷ decimal r.last ∷ rank_field format r.row ∷ input_field format r.row ∷ []) e

no_head : (head : TurnHead) (j n : ℕ) → [] ≡ head_line head j n → ⊥
no_head Count j n e = no_line (codes "rows" ∷ decimal n ∷ []) e
no_head Numbered j n e = no_line (codes "turn" ∷ decimal j ∷ codes "rows" ∷ decimal n ∷ []) e

pub none_empty : (rules : TurnRules) (q m : TurnState) → TurnStep rules q [] m → ⊥
none_empty rules (AfterTurns j zero last) m step = elim step [
  | inl turn ↦ no_head rules.head j turn.1 turn.3
  | inr end ↦ omega (arith, ap length end.1)
]
none_empty rules (AfterTurns j (suc n) last) m step = no_run rules.rows.version rules.rows.format step.0 step.1.line_is
none_empty rules AfterAll m step = step

-- ---- each is one line, and says one thing

module _ (rules : TurnRules) (small : AreSmallTurns rules) where
  few : (n : ℕ) → n ≤ rules.rows.cells → n < 2 ^ 64
  few n le = let cells = small.rows.cells in omega (arith, le, cells)

  few_turns : (j : ℕ) → j < rules.turns → j < 2 ^ 64
  few_turns j lt = omega (arith, lt, small.turns)

  step_is_line : (q m : TurnState) (x : List ℕ) → TurnStep rules q x m → IsLine x
  step_is_line (AfterTurns j zero last) m x h = elim h [
    | inl turn ↦ subst IsLine (sym turn.3) (head_is_line rules.head j turn.1 (few_turns j turn.0) (few turn.1 turn.2))
    | inr end ↦ subst IsLine (sym end.1) end_is_line
  ]
  step_is_line (AfterTurns j (suc n) last) m x h = row_is_line rules.rows small.rows last h.0 x h.1
  step_is_line AfterAll m x h = absurd h

  one_state : (q m n : TurnState) (x : List ℕ) → TurnStep rules q x m → TurnStep rules q x n → m ≡ n
  one_state (AfterTurns j zero last) m n x a b = elim a [
    | inl turn ↦ elim b [
      | inl other ↦ turn.4 ∙ ap (λ (k : ℕ). AfterTurns (suc j) k None) (head_same rules.head j turn.1 other.1 (few turn.1 turn.2) (few other.1 other.2) (sym turn.3 ∙ other.3)) ∙ sym other.4
      | inr end ↦ absurd (let lt = turn.0 in let eq = end.0 in omega (arith, lt, eq))
    ]
    | inr end ↦ elim b [
      | inl turn ↦ absurd (let lt = turn.0 in let eq = end.0 in omega (arith, lt, eq))
      | inr other ↦ end.2 ∙ sym other.2
    ]
  ]
  one_state (AfterTurns j (suc k) last) m n x a b = a.2 ∙ ap (λ (r : Run). AfterTurns j k (Some r)) (row_same rules.rows small.rows last a.0 b.0 x a.1 b.1) ∙ sym b.2
  one_state AfterAll m n x a b = absurd a

  stops : (q : TurnState) (rest : List ℕ) → AreOver q rest → IsStuck (TurnStep rules) q rest
  stops (AfterTurns j n last) rest over piece behind r cut step = over
  stops AfterAll rest over piece behind r cut step = step

  pub turns_are_grammar : IsGrammar (TurnStep rules) AreOver Met
  turns_are_grammar = record {
    one_piece = λ q m n x y rest others met a b e. (one_line x y rest others (step_is_line q m x a) (step_is_line q n y b) e).line;
    one_state = λ q m n x met a b. one_state q m n x a b;
    met = λ q m x met step. tt;
    some = λ q m behind met step. none_empty rules q m step;
    ends = λ q rest met over. stops q rest over;
  }
