-- What rows apply at a state.
use Rattle.std.proofs.Common.{◌≡◌, ◌≢◌, ℕ, ◌<◌, Bool, true, false, List, Option, Some, None, refl, sym, ap, ◌∙◌, eq-eqb, arith, inl, inr}
use Rattle.std.specs.Prelude.{ℤ, if◌then◌else◌}
use Rattle.std.proofs.lemmas.Bool.{cases_lt, ne_eqb}
use Rattle.std.proofs.lemmas.Option.{none-some, same_Some, option_and_then_some}
use Rattle.game_core.specs.declared.game.Row.{Row}
use Rattle.plant_record.specs.declared.aims.GoalKind.{GoalKind}
use Rattle.plant_record.specs.declared.aims.GoalKind.TheVariants.{Reach}
use Rattle.plant_record.specs.Description.{Description}
use Rattle.controller_table.specs.Choice.{row_at, HasRowAt, has_arrived, applied, Chooses}

own_if : (b : Bool) (v u : ℕ) → (if b then None else Some v) ≡ Some u → v ≡ u
own_if true v u e = absurd (none-some u e)
own_if false v u e = same_Some v u e

-- a row applies no input but its own
pub own_input : (goal : GoalKind) (row : Row) (u : ℕ) → applied goal row ≡ Some u → row.input ≡ u
own_input goal row u e = own_if (has_arrived goal row) row.input u e

-- of a plant that is to be brought to its targets a row above rank 0 applies its input
pub applies_above_zero : (row : Row) → 0 < row.rank → applied Reach row ≡ Some row.input
applies_above_zero row some = let other : row.rank ≢ 0 = omega (arith, some) in rw (ne_eqb row.rank 0 other) refl

-- and no other row applies one
pub above_zero : (row : Row) (u : ℕ) → applied Reach row ≡ Some u → 0 < row.rank
above_zero row u e = elim (cases_lt 0 row.rank) [
  | inl some ↦ some
  | inr none ↦
      let arrived : has_arrived Reach row ≡ true = eq-eqb row.rank 0 (omega (arith, none)) in
      absurd (none-some u (sym (ap (λ (b : Bool). if b then None else Some row.input) arrived) ∙ e))
]

-- an input that is chosen is one that the row of the state's cell applies
pub chosen_row : (p : Description) (rows : List (Option Row)) (x : List ℤ) (u : ℕ) → Chooses p rows x u → (row : Row) × HasRowAt p rows x row × (applied p.goal row ≡ Some u)
chosen_row p rows x u chosen = option_and_then_some (applied p.goal) (row_at p rows x) u chosen (λ row has is. (row, has, is))
