-- A game refines its plant: it has every step that the plant can take under an enabled input (the
-- feedback refinement relation of Reissig, Weber and Rungger, IEEE Transactions on Automatic Control, 2017).
use Rattle.std.specs.Prelude.{ℕ, ◌<◌, ℤ, List}
use Rattle.std.specs.List.{Contains}
use Rattle.game_core.specs.Game.{Game, IsEnabled, successors_of}
use Rattle.grid_quantiser.specs.Cells.{IsInDomain, IsPointOf, cell_of}
use Rattle.plant_record.specs.Description.{Description, axes_of}
use Rattle.plant_record.specs.Steps.{IsNoise, step_of}

-- Every step from a point of a cell, under an enabled input and a noise in range, lies in the domain,
-- and its cell is among the successors.
pub record IsRefinement (p : Description) (g : Game) : Type 0 where
  pub inside : (c u : ℕ) (x w : List ℤ) → c < g.cells → IsEnabled g c u → IsPointOf (axes_of p) c x → IsNoise p.noises w → IsInDomain (axes_of p) (step_of p x u w)
  pub among : (c u : ℕ) (x w : List ℤ) → c < g.cells → IsEnabled g c u → IsPointOf (axes_of p) c x → IsNoise p.noises w → Contains (successors_of g c u) (cell_of (axes_of p) (step_of p x u w))
