-- Facts on the cells and the segments of boxes are propositions, so a struct may keep them.
use Rattle.std.specs.Prelude.{ℕ, List, Option, Some, None, IfSome}
use Rattle.std.proofs.Props.{props}
use mathlib.Core.HLevel.{Unit-prop}
use Rattle.grid_quantiser.specs.declared.axis.Axis.{Axis}
use Rattle.grid_quantiser.specs.declared.boxes.CellBox.{CellBox}
use Rattle.plant_game.specs.inside.Props.{box_props}
use Rattle.source_lists.specs.declared.shapes.Shapes.{Shapes}
use Rattle.source_lists.specs.Fans.{HasFan, FanIsKnown}
use Rattle.source_lists.specs.Shapes.{HasSegmentsOf}

HasFan-prop : (axes : List Axis) (fans : List ℕ) (b : CellBox) → IsProp (HasFan axes fans b)
HasFan-prop axes fans b = Prim.hlevel props

pub FanIsKnown-prop : (axes : List Axis) (fans : List ℕ) (b : Option CellBox) → IsProp (FanIsKnown axes fans b)
FanIsKnown-prop axes fans None = Unit-prop
FanIsKnown-prop axes fans (Some b) = HasFan-prop axes fans b

HasSegmentsOf-prop : (axes : List Axis) (s : Shapes) (b : CellBox) → IsProp (HasSegmentsOf axes s b)
HasSegmentsOf-prop axes s b = Prim.hlevel props

pub HasSegments-prop : (axes : List Axis) (s : Shapes) (b : Option CellBox) → IsProp (IfSome b (HasSegmentsOf axes s))
HasSegments-prop axes s None = Unit-prop
HasSegments-prop axes s (Some b) = HasSegmentsOf-prop axes s b

pub ruleset shape_props = (box_props, FanIsKnown-prop, HasSegments-prop)
