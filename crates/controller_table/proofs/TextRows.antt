-- A text has the rows of what it says, so one at a state for a turn.
use Rattle.std.proofs.Common.{inl, inr, ◌≡◌, ℕ, ◌<◌, List, [], length, Option, Some, sym, subst, ◌∙◌, arith}
use Rattle.std.specs.Prelude.{ℤ}
use Rattle.std.proofs.lemmas.Bool.{cases_lt}
use Rattle.std.proofs.lemmas.List.{get_or_past}
use Rattle.std.proofs.lemmas.Option.{same_Some}
use Rattle.game_core.specs.declared.game.Row.{Row}
use Rattle.game_core.specs.Solution.{row_of}
use Rattle.grid_quantiser.specs.Cells.{cell_of}
use Rattle.plant_record.specs.Description.{Description, axes_of}
use Rattle.turn_rows.specs.Rows.{rows_for}
use Rattle.controller_table.specs.declared.text_kind.TextKind.{TextKind}
use Rattle.controller_table.specs.TextKinds.{turn_rules}
use Rattle.controller_table.specs.KindTexts.{IsTextOf}
use Rattle.controller_table.specs.Choice.{HasRowAt}
use Rattle.controller_table.specs.TextRows.{HasTextRow}
use Rattle.controller_table.proofs.HeadedLaws.{one_text}
use Rattle.controller_table.proofs.RowsAtStates.{in_cell}

-- a cell with a row for a turn has it in one of the turns
pub turn_known : (turns : List (List (Option Row))) (j c : ℕ) (row : Row) → row_of (rows_for turns j) c ≡ Some row → j < length turns
turn_known turns j c row is = elim (cases_lt j (length turns)) [
  | inl lt ↦ lt
  | inr ge ↦ let none : row_of [] c ≡ Some row = subst (λ (r : List (Option Row)). row_of r c ≡ Some row) (get_or_past turns j [] ge) is in absurd (cc)
]

module _ (kind : TextKind) (bytes : List ℕ) (p : Description) (turns : List (List (Option Row))) (text : IsTextOf kind bytes p turns) (j : ℕ) (x : List ℤ) (row : Row) where
  -- which is one of the text's turns
  pub turn_of_row : HasRowAt p (rows_for turns j) x row → j < (turn_rules kind p).turns
  turn_of_row has = omega (arith, turn_known turns j (cell_of (axes_of p) x) row (in_cell p (rows_for turns j) x row has).1, text.within.one_list_each)

  -- a row of the text is one of what it says
  pub row_told : (h : HasTextRow kind bytes j x row) → (h.plant ≡ p) × HasRowAt p (rows_for turns j) x row
  row_told h =
      let same = one_text kind kind bytes h.plant p h.turns turns h.text text in
      (same.1, subst (λ (says : Description × List (List (Option Row))). HasRowAt says.0 (rows_for says.1 j) x row) (λ i. (same.1 i, same.2 i)) h.has)

pub one_text_row : (kind : TextKind) (bytes : List ℕ) (j : ℕ) (x : List ℤ) (a b : Row) → HasTextRow kind bytes j x a → HasTextRow kind bytes j x b → a ≡ b
one_text_row kind bytes j x a b h k = same_Some a b (sym (row_told kind bytes k.plant k.turns k.text j x a h).1 ∙ k.has)
