-- The marks of the cells of a plant.
use Rattle.std.specs.Prelude.{◌≡◌, ◌⊎◌, ℕ, ◌<◌, List, length, slice_index_or}
use Rattle.std.specs.List.{Any}
use Rattle.grid_quantiser.specs.Axes.{cells_of}
use Rattle.grid_quantiser.specs.CellBoxes.{LiesInside}
use Rattle.game_core.specs.declared.game.Mark.{Mark}
use Rattle.game_core.specs.declared.game.Mark.TheVariants.{Plain}
use Rattle.plant_record.specs.declared.aims.StateBox.{StateBox}
use Rattle.plant_record.specs.Description.{Description, axes_of}
use Rattle.plant_game.specs.Abstraction.{IsMarkAt}

-- The marks of all cells.
pub record AreMarksOf (p : Description) (marks : List Mark) : Type 0 where
  pub one_each : length marks ≡ cells_of (axes_of p)
  pub each : (c : ℕ) → c < cells_of (axes_of p) → IsMarkAt p c (slice_index_or marks c Plain)

-- all points of the cell lie in one of the targets
abbrev pub LiesInSomeTarget : Description → ℕ → Type 0
LiesInSomeTarget p c = Any (λ (b : StateBox). LiesInside (axes_of p) c b.low b.high) p.targets

-- The cells with a property have one mark now, and the others that which they had.
pub record AreMarked (mark : Mark) (Has : ℕ → Type 0) (before after : List Mark) : Type 0 where
  pub long : length after ≡ length before
  pub each : (c : ℕ) → c < length before →
      (Has c × (slice_index_or after c Plain ≡ mark)) ⊎ ((Has c → ⊥) × (slice_index_or after c Plain ≡ slice_index_or before c Plain))
