-- The boxes of some pairs among all.
use Rattle.std.specs.Prelude.{ℕ, ◌+◌, ◌-◌, List, ◌++◌, length, replicate, Option, None}
use Rattle.grid_quantiser.specs.declared.boxes.CellBox.{CellBox}

-- the boxes of so many pairs, of which those from one on are these, and the others have none
abbrev pub padded : ℕ → List (Option CellBox) → ℕ → List (Option CellBox)
padded first boxes pairs = replicate first None ++ (boxes ++ replicate (pairs - (first + length boxes)) None)
