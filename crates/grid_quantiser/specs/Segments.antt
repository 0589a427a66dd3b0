-- Cells that follow one another.
use Rattle.std.specs.Prelude.{◌≡◌, ℕ, ◌≤◌, List, ◌++◌}
use Rattle.std.specs.List.{range_with_len}

-- A list of cells begins with a segment of cells that follow one another, and these come later.
pub record BeginsWithSegment (cells later : List ℕ) (first len : ℕ) : Type 0 where
  pub some : 1 ≤ len
  pub parts : cells ≡ range_with_len first len ++ later
