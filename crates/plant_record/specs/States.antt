-- The point of a state, and where a state lies.
use Rattle.std.specs.Prelude.{ℤ, List, length, take}
use Rattle.std.specs.List.{Any}
use Rattle.grid_quantiser.specs.Cells.{IsInDomain, point_of}
use Rattle.grid_quantiser.specs.CellBoxes.{IsInBox}
use Rattle.plant_record.specs.declared.aims.StateBox.{StateBox}
use Rattle.plant_record.specs.Description.{Description, axes_of}

-- a state of a plant as a point, with 0 past the states
abbrev pub state_point : Description → List ℤ → List ℤ
state_point p x = point_of (take (length p.states) x)

-- a state in some box of a list
abbrev pub LiesInSome : Description → List StateBox → List ℤ → Type 0
LiesInSome p boxes x = Any (λ (b : StateBox). IsInBox (axes_of p) b.low b.high x) boxes

-- a state in the domain and in no obstacle box
abbrev pub IsClear : Description → List ℤ → Type 0
IsClear p x = IsInDomain (axes_of p) x × (LiesInSome p p.obstacles x → ⊥)
