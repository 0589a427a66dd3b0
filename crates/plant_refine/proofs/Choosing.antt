-- What the rows of a table choose at a state, one input at most.
use Rattle.std.proofs.Common.{◌≡◌, ℕ, ◌<◌, List, Option, Some, option_and_then, sym, subst, ap, ◌∙◌}
use Rattle.std.specs.Prelude.{ℤ}
use Rattle.std.proofs.lemmas.Option.{same_Some}
use Rattle.game_core.specs.declared.game.Row.{Row}
use Rattle.grid_quantiser.specs.Cells.{point_of}
use Rattle.plant_record.specs.declared.aims.GoalKind.{GoalKind}
use Rattle.plant_record.specs.declared.aims.GoalKind.TheVariants.{Reach}
use Rattle.plant_record.specs.Description.{Description}
use Rattle.plant_record.specs.Steps.{step_of, IsNoise}
use Rattle.controller_table.specs.Choice.{applied, Chooses, HasRowAt}
use Rattle.controller_table.proofs.Applied.{own_input, applies_above_zero, above_zero, chosen_row}
use Rattle.plant_refine.specs.inside.Descents.{HasLowerRow, LeadDown}

-- a row above rank 0 chooses its input, where the plant is to reach its targets
pub chooses_input : (p q : Description) (rows : List (Option Row)) (x : List ℤ) (row : Row) → q ≡ p → p.goal ≡ Reach → HasRowAt p rows x row → 0 < row.rank → Chooses q rows x row.input
chooses_input p q rows x row same goal has some =
    subst (λ (r : Description). Chooses r rows x row.input) (sym same) (ap (option_and_then (applied p.goal)) has ∙ ap (λ (g : GoalKind). applied g row) goal ∙ applies_above_zero row some)

-- Where an input is chosen, it is that of a row above rank 0.
pub record IsInputOf (p : Description) (rows : List (Option Row)) (x : List ℤ) (u : ℕ) : Type 0 where
  pub row : Row
  pub has : HasRowAt p rows x row
  pub some : 0 < row.rank
  pub is : row.input ≡ u

pub input_of : (p q : Description) (rows : List (Option Row)) (x : List ℤ) (u : ℕ) → q ≡ p → p.goal ≡ Reach → Chooses q rows x u → IsInputOf p rows x u
input_of p q rows x u same goal chosen =
    let h : Chooses p rows x u = subst (λ (r : Description). Chooses r rows x u) same chosen in
    let by = chosen_row p rows x u h in
    record { row = by.0; has = by.1; some = above_zero by.0 u (subst (λ (g : GoalKind). applied g by.0 ≡ Some u) goal by.2); is = own_input p.goal by.0 u by.2 }

-- the chosen input leads to a lower row
pub leads_lower : (p : Description) (rows : List (Option Row)) (x w y : List ℤ) (u : ℕ) (row : Row) → LeadDown p rows → IsInputOf p rows x u → IsNoise p.noises w → y ≡ point_of (step_of p x u w) → HasRowAt p rows x row → HasLowerRow p rows row.rank y
leads_lower p rows x w y u row down input noise is has =
    let same : input.row ≡ row = same_Some input.row row (sym input.has ∙ has) in
    let lower : HasLowerRow p rows input.row.rank (point_of (step_of p x input.row.input w)) = down.lower x w input.row input.has input.some noise in
    let there : point_of (step_of p x input.row.input w) ≡ y = ap (λ (v : ℕ). point_of (step_of p x v w)) input.is ∙ sym is in
    subst (λ (r : Row). HasLowerRow p rows r.rank y) same (subst (HasLowerRow p rows input.row.rank) there lower)
