-- What right rows promise at a state whose cell has one.
use Rattle.std.proofs.Common.{◌≡◌, ℕ, suc, ◌<◌, List, length, Option, None, refl}
use Rattle.std.specs.Prelude.{ℤ}
use Rattle.std.proofs.lemmas.List.Elements.{All-contains}
use Rattle.game_core.specs.declared.game.Row.{Row}
use Rattle.game_core.specs.Game.{Game, IsEnabled, successors_of}
use Rattle.game_core.specs.Solution.{row_of, HasRowBelow, LeadsToGoals}
use Rattle.game_core.proofs.Rows.{below_cells}
use Rattle.grid_quantiser.specs.Cells.{IsInDomain, cell_of}
use Rattle.plant_record.specs.Description.{Description, axes_of}
use Rattle.plant_record.specs.Steps.{step_of, IsNoise}
use Rattle.controller_table.specs.Choice.{HasRowAt}
use Rattle.controller_table.proofs.RowsAtStates.{in_cell, row_stands}
use Rattle.plant_game.specs.Abstraction.{IsGameOf}
use Rattle.plant_record.specs.States.{LiesInSome, IsClear}
use Rattle.plant_game.specs.Refinement.{IsRefinement}
use Rattle.plant_game.proofs.GameLaws as games

-- What the rows and their game keep.
pub record Guides (p : Description) (g : Game) (rows : List (Option Row)) : Type 0 where
  pub abstraction : IsGameOf p g
  pub leads : LeadsToGoals g rows
  pub refined : IsRefinement p g
  pub one_each : length rows ≡ g.cells

module _ {p : Description} {g : Game} {rows : List (Option Row)} (h : Guides p g rows) where
  pub clear_at : (x : List ℤ) (row : Row) → HasRowAt p rows x row → IsClear p x
  clear_at x row has =
      let c : ℕ = cell_of (axes_of p) x in
      let at = in_cell p rows x row has in
      games.clear_at p g h.abstraction h.refined x at.0 (below_cells rows g.cells c row h.one_each at.1) (λ marked. let none : row_of rows c ≡ None = h.leads.clear c marked in cc)

  pub arrived_at : (x : List ℤ) (u : ℕ) → HasRowAt p rows x (record { rank = 0; input = u }) → LiesInSome p p.targets x
  arrived_at x u has =
      let c : ℕ = cell_of (axes_of p) x in
      let at = in_cell p rows x (record { rank = 0; input = u }) has in
      games.in_target p g h.abstraction h.refined x at.0 (below_cells rows g.cells c (record { rank = 0; input = u }) h.one_each at.1) (h.leads.arrived c u at.1)

  pub enabled_at : (x : List ℤ) (k u : ℕ) → HasRowAt p rows x (record { rank = suc k; input = u }) → IsEnabled g (cell_of (axes_of p) x) u
  enabled_at x k u has = (h.leads.descends (cell_of (axes_of p) x) k u (in_cell p rows x (record { rank = suc k; input = u }) has).1).0

  -- the next state has a row of a lower rank
  pub next_row : (x w : List ℤ) (k u : ℕ) → HasRowAt p rows x (record { rank = suc k; input = u }) → IsNoise p.noises w → (row : Row) × HasRowAt p rows (step_of p x u w) row × (row.rank < suc k)
  next_row x w k u has noise =
      let c : ℕ = cell_of (axes_of p) x in
      let at = in_cell p rows x (record { rank = suc k; input = u }) has in
      let lt : c < g.cells = below_cells rows g.cells c (record { rank = suc k; input = u }) h.one_each at.1 in
      let down = h.leads.descends c k u at.1 in
      let next : List ℤ = step_of p x u w in
      let inside : IsInDomain (axes_of p) next = h.refined.inside c u x w lt down.0 (at.0, refl) noise in
      let lower : HasRowBelow rows (suc k) (cell_of (axes_of p) next) = All-contains (HasRowBelow rows (suc k)) (successors_of g c u) (cell_of (axes_of p) next) down.1 (h.refined.among c u x w lt down.0 (at.0, refl) noise) in
      (lower.row, row_stands p rows next lower.row inside lower.is, lower.below)
