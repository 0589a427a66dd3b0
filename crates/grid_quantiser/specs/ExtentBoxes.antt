-- The box of cells that extents make, axis by axis.
use Rattle.std.specs.Prelude.{◌+◌, ◌*◌, ◌↔◌, ℤ, List, Option, None, Some, IsSome, IfSome}
use Rattle.grid_quantiser.specs.declared.axis.Axis.{Axis}
use Rattle.grid_quantiser.specs.declared.boxes.CellBox.{CellBox}
use Rattle.grid_quantiser.specs.declared.extents.Extent.{Extent}
use Rattle.grid_quantiser.specs.CellBoxes.{IsBoxInDomain, AreCornersMeeting}

-- the box on no axis: the one cell
abbrev pub one_cell : Option CellBox
one_cell = Some (record { first = 0; last = 0 })

-- a box on the earlier axes, with an extent along one more
abbrev pub with_extent : Axis → Option CellBox → Option Extent → Option CellBox
with_extent a None extent = None
with_extent a (Some b) None = None
with_extent a (Some b) (Some s) = Some (record { first = b.first * a.count + s.first; last = b.last * a.count + s.last })

-- The corners of the cells that meet a box of states, or none where that leaves the domain.
pub record IsBoxMeeting (axes : List Axis) (lo hi : List ℤ) (found : Option CellBox) : Type 0 where
  pub inside : IsSome found ↔ IsBoxInDomain axes lo hi
  pub corners : IfSome found (λ b. AreCornersMeeting axes lo hi b.first b.last)
