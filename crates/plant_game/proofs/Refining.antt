-- The game of a plant refines it.
use Rattle.std.proofs.Common.{ℕ, ◌<◌, List, subst}
use Rattle.std.specs.Prelude.{ℤ}
use Rattle.game_core.specs.Game.{Game, IsEnabled, successors_of}
use Rattle.grid_quantiser.specs.Cells.{IsInDomain, IsPointOf, cell_of}
use Rattle.std.specs.List.{Contains}
use Rattle.plant_record.specs.Description.{Description, axes_of}
use Rattle.plant_record.specs.Plants.{IsPlant}
use Rattle.plant_record.specs.Steps.{IsNoise, step_of}
use Rattle.plant_record.proofs.lemmas.SoundPlants.{sound}
use Rattle.successor_box.proofs.Enabled.{enabled_exactly}
use Rattle.successor_box.proofs.Steps.{step_among}
use Rattle.plant_game.specs.Abstraction.{IsGameOf}
use Rattle.plant_game.specs.Laws.{GamesRefineTheirPlants}

step_leads : (p : Description) (g : Game) → IsPlant p → IsGameOf p g → (c u : ℕ) (x w : List ℤ) → c < g.cells → IsEnabled g c u → IsPointOf (axes_of p) c x → IsNoise p.noises w
    → IsInDomain (axes_of p) (step_of p x u w) × Contains (successors_of g c u) (cell_of (axes_of p) (step_of p x u w))
step_leads p g plant game c u x w below on point noise =
    let successors = game.successors c u below on.0 in
    let step = step_among p c u x w (sound p plant) (subst (λ (n : ℕ). c < n) game.cells below) point noise ((enabled_exactly p c u (successors_of g c u) (sound p plant) successors).0 on.1) in
    (step.0, step.1 (successors_of g c u) successors)

pub games_refine : GamesRefineTheirPlants
games_refine p g plant game = record {
  inside = λ c u x w below on point noise. (step_leads p g plant game c u x w below on point noise).0;
  among = λ c u x w below on point noise. (step_leads p g plant game c u x w below on point noise).1;
}
