-- The indices of a cell along the axes.
use Rattle.std.specs.Prelude.{ℕ, ℤ, pos, ◌+ℤ◌, ◌*ℤ◌, List}
use Rattle.mixed_radix.specs.Radix.{digit}
use Rattle.grid_quantiser.specs.declared.axis.Axis.{Axis}
use Rattle.grid_quantiser.specs.Axes.{counts_of}
use Rattle.grid_quantiser.specs.Cells.{radius_of}

-- the index of a cell along an axis
abbrev pub index_along : List Axis → ℕ → ℕ → ℕ
index_along axes i c = digit (counts_of axes) i c

-- the middle number of an index, the greater of the two along an even width
abbrev pub middle_of : Axis → ℕ → ℤ
middle_of a index = (a.lo +ℤ (a.width *ℤ pos index)) +ℤ radius_of a
