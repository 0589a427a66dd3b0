-- What a text says is what each of its rows, values and ranks speaks of.
use Rattle.std.proofs.Common.{◌≡◌, ℕ, List, Some, refl, ap, subst, arith}
use Rattle.std.specs.Prelude.{ℤ}
use Rattle.game_core.specs.declared.game.Row.{Row}
use Rattle.plant_record.specs.Description.{Description, vector_of}
use Rattle.turn_rows.specs.Rows.{rows_for}
use Rattle.controller_table.specs.declared.text_kind.TextKind.{TextKind}
use Rattle.controller_table.specs.TextKinds.{turn_rules}
use Rattle.controller_table.specs.Choice.{HasRowAt}
use Rattle.controller_table.specs.TextRows.{HasTextRow}
use Rattle.controller_table.proofs.TextRows.{turn_of_row, row_told}
use Rattle.text_control.specs.Texts.{TextModel, due_rows, Tells}
use Rattle.text_control.specs.Control.{applied_as, HasTextRank, AreTextValues}

module _ (bytes : List ℕ) (t : TextModel) (tells : Tells bytes t) (x : List ℤ) where
  abbrev HasRow : Row → Type 0
  HasRow row = HasRowAt t.plant (due_rows t) x row

  -- ---- from the text to what it says

  -- the row whose input has the values that a text applies
  pub applied_row : (values : List ℤ) → AreTextValues t.kind t.turn bytes x values → (row : Row) × HasRow row × ((u : ℕ) × (applied_as t.kind t.plant.goal row ≡ Some u))
  applied_row values are =
      let told = row_told t.kind bytes t.plant t.turns tells t.turn x are.0 are.1 in
      (are.0, told.1, (are.2, subst (λ (p : Description). applied_as t.kind p.goal are.0 ≡ Some are.2) told.0 are.3))

  -- the row that has a rank in a text
  pub ranked_row : (k : ℕ) → HasTextRank t.kind t.turn bytes x k → (row : Row) × HasRow row × (row.rank ≡ k)
  ranked_row k ranked = (ranked.0, (row_told t.kind bytes t.plant t.turns tells t.turn x ranked.0 ranked.1).1, ranked.2)

  -- ---- from what a text says to the text

  pub text_row : (j : ℕ) (row : Row) → HasRowAt t.plant (rows_for t.turns j) x row → HasTextRow t.kind bytes j x row
  text_row j row has = record { plant = t.plant; turns = t.turns; text = tells; has = has }

  pub text_values : (values : List ℤ) (row : Row) (u : ℕ) → HasRow row → applied_as t.kind t.plant.goal row ≡ Some u → values ≡ vector_of t.plant.inputs u → AreTextValues t.kind t.turn bytes x values
  unfolding text_row
  text_values values row u has applies are = (row, text_row t.turn row has, u, applies, are)

  pub text_rank : (row : Row) → HasRow row → HasTextRank t.kind t.turn bytes x row.rank
  text_rank row has = (row, text_row t.turn row has, refl)

  -- of a text of one turn the first is due where it has a row
  pub first_due : (kind : TextKind) → t.kind ≡ kind → (turn_rules kind t.plant).turns ≡ 1 → (row : Row) → HasRow row → t.turn ≡ 0
  first_due kind is one row has = omega (arith, turn_of_row t.kind bytes t.plant t.turns tells t.turn x row has, ap (λ (k : TextKind). (turn_rules k t.plant).turns) is, one)
