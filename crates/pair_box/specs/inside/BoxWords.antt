-- A box as it is added, in one word.
use Rattle.std.specs.Prelude.{ℕ, ◌+◌, ◌-◌, ◌*◌, ◌^◌, Option, None, Some}
use Rattle.grid_quantiser.specs.declared.boxes.CellBox.{CellBox}

-- the ends of a box in one word of 64 bits, and the greatest where there is no box
abbrev pub word_of : Option CellBox → ℕ
word_of None = 2 ^ 64 - 1
word_of (Some b) = b.last * 2 ^ 32 + b.first
