-- A table of the keep solution keeps its plant: by induction on the noises.
use Rattle.std.proofs.Common.{◌≡◌, ℕ, List, [], ◌∷◌, Option, Some, option_and_then, refl, ap, ◌∙◌}
use Rattle.std.specs.Prelude.{ℤ}
use Rattle.std.specs.List.{AllByRecursion}
use Rattle.std.proofs.lemmas.List.Elements.{recursion_from_All}
use Rattle.game_core.specs.declared.game.Row.{Row}
use Rattle.game_core.specs.Game.{Game}
use Rattle.game_core.specs.Keep.{IsKeepSolution}
use Rattle.grid_quantiser.specs.Cells.{cell_of}
use Rattle.plant_record.specs.declared.aims.GoalKind.{GoalKind}
use Rattle.plant_record.specs.declared.aims.GoalKind.TheVariants.{Keep}
use Rattle.plant_record.specs.Description.{Description, axes_of}
use Rattle.plant_record.specs.States.{IsClear}
use Rattle.plant_record.specs.Steps.{step_of, IsNoise}
use Rattle.controller_table.specs.Choice.{applied, HasRowAt}
use Rattle.controller_table.specs.Tables.{IsTable}
use Rattle.controller_table.proofs.RowsAtStates.{in_cell, row_stands}
use Rattle.plant_game.specs.Abstraction.{IsGameOf}
use Rattle.plant_game.specs.Refinement.{IsRefinement}
use Rattle.plant_game.proofs.GameLaws.{refines, clear_at, lands}
use Rattle.plant_refine.specs.Laws.{KeptTablesKeepPlants}
use Rattle.plant_refine.specs.Stays.{HasSomeRow, Remains, Stays}
use Rattle.plant_refine.proofs.KeepRows.{cell_below, clear_of, enabled, leads_on}
use Rattle.plant_refine.proofs.RightTables.{row_of_table}

-- What a table of the keep solution keeps.
pub record Keeps (bytes : List ℕ) (p : Description) (g : Game) (rows : List (Option Row)) : Type 0 where
  pub goal : p.goal ≡ Keep
  pub table : IsTable bytes p rows
  pub abstraction : IsGameOf p g
  pub solution : IsKeepSolution g rows
  pub refined : IsRefinement p g

module _ {bytes : List ℕ} {p : Description} {g : Game} {rows : List (Option Row)} (k : Keeps bytes p g rows) where
  some_row : (x : List ℤ) (row : Row) → HasRowAt p rows x row → HasSomeRow bytes x
  some_row x row has = (row.rank, record { plant = p; rows = rows; table = k.table; row = row; has = has; ranked = refl })

  applies : (row : Row) → applied p.goal row ≡ Some row.input
  applies row = ap (λ (goal : GoalKind). applied goal row) k.goal

  here : (x : List ℤ) (row : Row) → HasRowAt p rows x row → IsClear p x × HasSomeRow bytes x
  here x row has =
      let c : ℕ = cell_of (axes_of p) x in
      let at = in_cell p rows x row has in
      (clear_at p g k.abstraction k.refined x at.0 (cell_below k.solution c row at.1) (clear_of k.solution c row at.1), some_row x row has)

  remains : (ws : List (List ℤ)) (x : List ℤ) (row : Row) → HasRowAt p rows x row → AllByRecursion (IsNoise p.noises) ws → Remains p bytes x ws
  remains [] x row has noises = here x row has
  remains (w ∷ ws) x row has noises =
      let c : ℕ = cell_of (axes_of p) x in
      let y : List ℤ = step_of p x row.input w in
      let at = in_cell p rows x row has in
      let next = lands p g k.abstraction k.refined x w row.input at.0 (cell_below k.solution c row at.1) (enabled k.solution c row at.1) noises.0 in
      let there = leads_on k.solution c row at.1 (cell_of (axes_of p) y) next.2 next.1 in
      let now = here x row has in (
        now.0,
        now.1,
        (row.input, record { plant = p; rows = rows; table = k.table; chosen = ap (option_and_then (applied p.goal)) has ∙ applies row }, remains ws y there.0 (row_stands p rows y there.0 next.0 there.1) noises.1),
      )

  pub table_keeps : Stays p bytes
  table_keeps x ws ranked noises =
      let row = row_of_table bytes p rows x ranked.0 k.table ranked.1 in
      remains ws x row.0 row.1 (recursion_from_All (IsNoise p.noises) ws noises)

pub tables_keep : KeptTablesKeepPlants
tables_keep bytes p g rows goal table game solution =
    table_keeps (record { goal = goal; table = table; abstraction = game; solution = solution; refined = refines p g table.1.limits.plant game })
