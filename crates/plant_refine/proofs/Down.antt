-- Right rows lead down: what they and their game promise, at the points of states.
use Rattle.std.proofs.Common.{◌≡◌, ℕ, zero, suc, ◌<◌, List, length, Option, subst, ◌∙◌, ap, arith}
use Rattle.std.specs.Prelude.{ℤ}
use Rattle.std.proofs.lemmas.List.{length-map}
use Rattle.game_core.specs.declared.game.Row.{Row}
use Rattle.game_core.specs.Game.{IsEnabled, successors_of}
use Rattle.game_core.specs.Solution.{row_of}
use Rattle.game_core.proofs.Promises.{leads_to_goals}
use Rattle.game_core.proofs.Rows.{below_cells}
use Rattle.game_core.proofs.Right.{right_rows_are_the_solution}
use Rattle.grid_quantiser.specs.Cells.{cell_of, point_of}
use Rattle.plant_record.specs.Description.{Description, axes_of, vectors_of}
use Rattle.plant_record.specs.Plants.{IsPlant}
use Rattle.plant_record.specs.Steps.{step_of, IsNoise}
use Rattle.plant_record.proofs.lemmas.SoundPlants.{sound}
use Rattle.successor_box.specs.SuccessorBoxes.{IsEnabledAt}
use Rattle.successor_box.proofs.Enabled.{enabled_exactly}
use Rattle.successor_box.proofs.Padding.{point_lies}
use Rattle.plant_record.specs.declared.aims.GoalKind.TheVariants.{Reach}
use Rattle.controller_table.specs.Choice.{Chooses, HasRowAt}
use Rattle.controller_table.proofs.RowsAtStates.{in_cell, row_stands}
use Rattle.plant_record.specs.States.{LiesInSome}
use Rattle.plant_game.proofs.GameLaws.{refines}
use Rattle.plant_refine.specs.RightRows.{AreRightRowsOf}
use Rattle.plant_refine.specs.inside.Descents.{HasLowerRow, LeadDown}
use Rattle.plant_refine.proofs.Choosing.{input_of, leads_lower}
use Rattle.plant_refine.proofs.Leading.{Guides, clear_at, arrived_at, enabled_at, next_row}

module _ (p : Description) (rows : List (Option Row)) (plant : IsPlant p) (h : AreRightRowsOf p rows) where
  pub guides : Guides p h.game rows
  guides = record {
    abstraction = h.abstraction;
    leads = leads_to_goals h.game rows h.abstraction.game (right_rows_are_the_solution h.game rows h.abstraction.game h.right);
    refined = refines p h.game plant h.abstraction;
    one_each = h.right.one_each;
  }

  arrived : (x : List ℤ) (row : Row) → HasRowAt p rows x row → row.rank ≡ 0 → LiesInSome p p.targets x
  arrived x row has none = arrived_at guides x row.input (subst (λ (n : ℕ). HasRowAt p rows x (record { rank = n; input = row.input })) none has)

  input : (x : List ℤ) (rank u : ℕ) → HasRowAt p rows x (record { rank = rank; input = u }) → 0 < rank → u < vectors_of p.inputs
  input x zero u has some = absurd (omega (arith, some))
  input x (suc n) u has some = let on : IsEnabled h.game (cell_of (axes_of p) x) u = enabled_at guides x n u has in subst (λ (m : ℕ). u < m) h.abstraction.inputs on.0

  enabled : (x : List ℤ) (rank u : ℕ) → HasRowAt p rows x (record { rank = rank; input = u }) → 0 < rank → IsEnabledAt p (cell_of (axes_of p) x) u
  enabled x zero u has some = absurd (omega (arith, some))
  enabled x (suc n) u has some =
      let c : ℕ = cell_of (axes_of p) x in
      let on : IsEnabled h.game c u = enabled_at guides x n u has in
      (enabled_exactly p c u (successors_of h.game c u) (sound p plant) (h.abstraction.successors c u (below_cells rows h.game.cells c (record { rank = suc n; input = u }) h.right.one_each (in_cell p rows x (record { rank = suc n; input = u }) has).1) on.0)).0 on.1

  -- a row stands at the point of a state as at the state
  at_point : (y : List ℤ) (row : Row) → length p.states ≡ length y → HasRowAt p rows y row → HasRowAt p rows (point_of y) row
  at_point y row long has =
      let same = point_lies p y (omega (arith, long)) in
      let at = in_cell p rows y row has in
      row_stands p rows (point_of y) row (same.0.1 at.0) (ap (row_of rows) same.1 ∙ at.1)

  lower : (x w : List ℤ) (rank u : ℕ) → HasRowAt p rows x (record { rank = rank; input = u }) → 0 < rank → IsNoise p.noises w → HasLowerRow p rows rank (point_of (step_of p x u w))
  lower x w zero u has some noise = absurd (omega (arith, some))
  lower x w (suc n) u has some noise =
      let next = next_row guides x w n u has noise in
      let count : length (step_of p x u w) ≡ length p.equations = length-map p.equations _ in
      record { row = next.0; has = at_point (step_of p x u w) next.0 (omega (arith, count, plant.one_each)) next.1; lower = next.2 }

pub lead_down : (p : Description) (rows : List (Option Row)) → IsPlant p → AreRightRowsOf p rows → LeadDown p rows
lead_down p rows plant h = record {
  clear = clear_at (guides p rows plant h);
  arrived = arrived p rows plant h;
  input = λ x row. input p rows plant h x row.rank row.input;
  enabled = λ x row. enabled p rows plant h x row.rank row.input;
  lower = λ x w row. lower p rows plant h x w row.rank row.input;
}

-- The input that is chosen at a state leads to lower rows.
pub record LeadsLower (p : Description) (rows : List (Option Row)) (x : List ℤ) (u : ℕ) : Type 0 where
  pub input : u < vectors_of p.inputs
  pub enabled : IsEnabledAt p (cell_of (axes_of p) x) u
  pub lower : (w y : List ℤ) (row : Row) → IsNoise p.noises w → y ≡ point_of (step_of p x u w) → HasRowAt p rows x row → HasLowerRow p rows row.rank y

pub chosen_leads : (p q : Description) (rows : List (Option Row)) (x : List ℤ) (u : ℕ) → IsPlant p → AreRightRowsOf p rows → q ≡ p → p.goal ≡ Reach → Chooses q rows x u → LeadsLower p rows x u
chosen_leads p q rows x u plant right same goal chosen =
    let down = lead_down p rows plant right in
    let chosen_input = input_of p q rows x u same goal chosen in
    record {
      input = subst (λ (v : ℕ). v < vectors_of p.inputs) chosen_input.is (down.input x chosen_input.row chosen_input.has chosen_input.some);
      enabled = subst (IsEnabledAt p (cell_of (axes_of p) x)) chosen_input.is (down.enabled x chosen_input.row chosen_input.has chosen_input.some);
      lower = λ w y row noise is has. leads_lower p rows x w y u row down chosen_input noise is has;
    }
