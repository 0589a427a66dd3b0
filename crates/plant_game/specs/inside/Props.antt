-- Facts on boxes are propositions, so a struct may keep them.
use Rattle.std.specs.Prelude.{ℕ, ◌%◌, List, [], ◌∷◌, Option, Some, None}
use native.Mathlib.Bridge.{le_prop}
use Rattle.std.proofs.Props.{props}
use mathlib.Core.HLevel.{Unit-prop}
use Rattle.grid_quantiser.specs.declared.axis.Axis.{Axis}
use Rattle.grid_quantiser.specs.declared.boxes.CellBox.{CellBox}
use Rattle.grid_quantiser.specs.Axes.{cells_of}
use Rattle.grid_quantiser.specs.CellBoxes.{IsCellBox}
use Rattle.plant_game.specs.BoxGame.{IsBox}

pub IsCellBox-prop : (axes : List Axis) (first last : ℕ) → IsProp (IsCellBox axes first last)
IsCellBox-prop [] first last = Unit-prop
IsCellBox-prop (a ∷ axes) first last = λ p q i. (le_prop p.0 q.0 i, le_prop p.1 q.1 i, IsCellBox-prop axes (first % cells_of axes) (last % cells_of axes) p.2 q.2 i)

pub IsBox-prop : (axes : List Axis) (b : Option CellBox) → IsProp (IsBox axes b)
IsBox-prop axes None = Unit-prop
IsBox-prop axes (Some b) = IsCellBox-prop axes b.first b.last

pub ruleset box_props = (props, IsCellBox-prop, IsBox-prop)
