-- Boxes as sums.
use Rattle.std.specs.Prelude.{ℕ, ◌+◌, ◌-◌, ◌*◌, Option, None, Some}
use Rattle.grid_quantiser.specs.declared.boxes.CellBox.{CellBox}
use Rattle.grid_quantiser.specs.declared.extents.Extent.{Extent}

-- what an extent adds to a box, where one index along its axis makes so many cells
abbrev pub term : ℕ → Option Extent → Option CellBox
term stride None = None
term stride (Some s) = Some (record { first = s.first * stride; last = s.last * stride })

-- the sum of two boxes, end by end
abbrev pub plus : Option CellBox → Option CellBox → Option CellBox
plus None b = None
plus (Some a) None = None
plus (Some a) (Some b) = Some (record { first = a.first + b.first; last = a.last + b.last })
